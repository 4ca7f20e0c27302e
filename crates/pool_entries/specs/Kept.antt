-- A pool that grows keeps the entries that its numbers name.
use Rattle.std.specs.Prelude.{◌≡◌, ℕ, List, Some}
use Rattle.jvms_file.specs.declared.class_file.Constant.{Constant}
use Rattle.jvms_file.specs.ConstantPool.{entry}

-- Each entry of a pool is at the same number in another.
pub record IsKept (old new : List Constant) : Type 0 where
  pub stays : (n : ℕ) (c : Constant) → entry old n ≡ Some c → entry new n ≡ Some c
