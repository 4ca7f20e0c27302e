-- Marks of numbers, 64 to a word.
use Rattle.std.specs.Prelude.{ℕ, Bool, ◌==◌, ◌/◌, ◌%◌, List, nat_eq, slice_get, unwrap_or}
use Rattle.std.specs.Int.{bit_at}
use Rattle.std.specs.List.{list_any}

abbrev pub is_marked : List ℕ → ℕ → Bool
is_marked marks number = bit_at (unwrap_or (slice_get marks (number / 64)) 0) (number % 64) == 1

-- Decides whether a number is among some.
abbrev pub is_in : List ℕ → ℕ → Bool
is_in numbers n = list_any (nat_eq n) numbers
