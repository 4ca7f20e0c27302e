-- The choices of departures from a default, and the changes of priorities, by their positions.
use Rattle.std.specs.Prelude.{ℕ, zero, suc, ◌≤◌, ◌==◌, if◌then◌else◌, List, [], ◌∷◌, Option, None, Some}
use Rattle.std.specs.List.{All}
use Rattle.departures.specs.declared.departure.Departure.{Departure}
use Rattle.schedule.specs.declared.ranked.Change.{Change}
use Rattle.schedule.specs.Choosers.{Chooser, Staying, left_after, turns_before}
use Rattle.schedule.specs.Schedules.{AreRising}

-- Returns the chooser at a position, with the last thread and the departures that are left.
abbrev pub staying_at : ℕ → ℕ → List Departure → Chooser
staying_at position last departures = Staying (turns_before position departures) last departures

-- The departures are at rising positions, from this one on.
abbrev pub AreRisingFrom : ℕ → List Departure → Type 0
AreRisingFrom position departures = All (λ d. position ≤ d.position) departures × AreRising departures

-- Returns the priority that is given after the turn at a position, if a change is made then.
abbrev pub due_at : ℕ → List Change → Option ℕ
due_at position [] = None
due_at position (c ∷ changes) = if c.turns == position then Some c.priority else due_at position changes

-- Returns the changes that are left after this number of turns.
abbrev pub left_after_turns : ℕ → List Change → List Change
left_after_turns zero changes = changes
left_after_turns (suc turns) changes = left_after_turns turns (left_after changes)
