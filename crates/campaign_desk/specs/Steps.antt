-- Defines what each kind of step on the table adds to the seat that takes it.
use Rattle.std.specs.Prelude.{◌≡◌, ℕ, ◌<◌, List, All}
use Rattle.atomic_table.specs.Table.{Me, Step}
use Rattle.campaign_desk.specs.declared.knowledge.Knowledge.{Knowledge}
use Rattle.campaign_desk.specs.Knowledge.{IsLeastFor, after_look, after_draw, after_lower, after_bound}
use Rattle.campaign_desk.specs.Views.{one_seat}

module _ {S : Type 0} where
  -- A seat looked at the next number.
  abbrev pub IsLook : Step S → Me S (List Knowledge) → ℕ → Me S (List Knowledge) → Type 0
  IsLook step old next new =
      (seat : Knowledge) → old ≡ one_seat seat → new ≡ one_seat (after_look seat next)

  -- A seat drew the next number, which is above all that it had drawn.
  abbrev pub IsDraw : Step S → Me S (List Knowledge) → ℕ → Me S (List Knowledge) → Type 0
  IsDraw step old next new =
      (seat : Knowledge) → old ≡ one_seat seat
      → (new ≡ one_seat (after_draw seat next)) × All (λ x. x < next) seat.draws

  -- A seat lowered the bound to the step's operand.
  abbrev pub IsLower : Step S → Me S (List Knowledge) → ℕ → Me S (List Knowledge) → Type 0
  IsLower step old bound new =
      (seat : Knowledge) → old ≡ one_seat seat → new ≡ one_seat (after_lower seat step.first)

  -- A seat read the bound. It is at most each number to which the seat had lowered it, and each bound that the seat had
  -- read.
  abbrev pub IsBound : Step S → Me S (List Knowledge) → ℕ → Me S (List Knowledge) → Type 0
  IsBound step old bound new =
      (seat : Knowledge) → old ≡ one_seat seat
      → (new ≡ one_seat (after_bound seat bound)) × IsLeastFor seat bound
