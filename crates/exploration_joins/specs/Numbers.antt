-- Defines what is said of numbers of parts (own).
use Rattle.std.specs.Prelude.{◌==◌, ◌<◌, ◌≤◌, ℕ, List, Contains, count_by}

-- Returns how often a number is among these.
abbrev pub times_in : List ℕ → ℕ → ℕ
times_in numbers number = count_by (λ other. other == number) numbers

-- This is the least number that is there twice.
pub record IsFirstTwice (numbers : List ℕ) (number : ℕ) : Type 0 where
  pub twice : 2 ≤ times_in numbers number
  pub least : (other : ℕ) → other < number → times_in numbers other ≤ 1

-- This is the least number that isn't among these.
pub record IsFirstMissing (numbers : List ℕ) (number : ℕ) : Type 0 where
  pub missing : Contains numbers number → ⊥
  pub least : (other : ℕ) → other < number → Contains numbers other
