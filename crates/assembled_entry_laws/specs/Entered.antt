-- Defines the index of an entry that is added to a pool or found there.
use Rattle.std.specs.Prelude.{ℕ, ◌≤◌, ◌<◌, List, length}
use Rattle.jvms_file.specs.declared.class_file.Constant.{Constant}
use Rattle.pool_entries.specs.Kept.{IsKept}

-- The index is from 1 to 65534. The new pool keeps the entries of the old one, and still has at most 65534 indices
-- (JVMS 4.1).
pub record IsEntered (old : List Constant) (n : ℕ) (new : List Constant) : Type 0 where
  pub some : 1 ≤ n
  pub fits : n < 65535
  pub kept : IsKept old new
  pub few : length new ≤ 65534
