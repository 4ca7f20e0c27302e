-- Defines checkpoints: the machine at positions of a run.
use Rattle.std.specs.Prelude.{◌≡◌, ℕ, ◌+◌, ◌*◌, ◌/◌, ◌^◌, ◌<◌, ◌≤◌, List, length, slice_index_or}
use Rattle.debugger.specs.declared.mark.Mark.{Mark}
use Rattle.debugger.specs.States.{Setting, machine_at, items_at, outcome_at}

-- Returns the mark of a position: the machine, the number of items before it and the outcome of the last choice.
abbrev pub mark_at : Setting → List ℕ → ℕ → Mark
mark_at g choices n =
    record { machine = machine_at g choices n; items = length (items_at g choices n); outcome = outcome_at g choices n }

-- The spacing d is the least power of two such that 64 times d exceeds the greatest position.
pub record IsSpacing (most : ℕ) (d : ℕ) : Type 0 where
  pub power : (k : ℕ) × (d ≡ 2 ^ k)
  pub positive : 0 < d
  pub enough : most < 64 * d
  pub least : 1 < d → 32 * d ≤ most

-- The marks are those at multiples of the spacing, from number `first` up to position `last`.
pub record AreMarks (at : ℕ → Mark) (d : ℕ) (first : ℕ) (last : ℕ) (marks : List Mark) : Type 0 where
  pub many : first + length marks ≡ last / d + 1
  pub each : (i : ℕ) (x : Mark) → i < length marks → slice_index_or marks i x ≡ at ((first + i) * d)
