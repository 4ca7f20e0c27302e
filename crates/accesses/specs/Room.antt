-- Defines what contracts see of the accesses by thread (own).
use Rattle.std.specs.Prelude.{ℕ, List}
use Rattle.accesses.specs.declared.lasts.Noted.{Noted}

-- The accesses, and how many there may be before memory is needed.
pub record NotedRoom : Type 0 where
  pub items : List Noted
  pub capacity : ℕ
