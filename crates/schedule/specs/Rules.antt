-- The chooser that contracts see of a rule.
use Rattle.std.specs.Prelude.{◌≡◌, ◌≤◌, ◌⊎◌, ◌+◌, ℕ, drop, if◌then◌else◌, List, []}
use Rattle.departures.specs.declared.departure.Departure.{Departure}
use Rattle.schedule.specs.declared.chooser.Rule.{Rule}
use Rattle.schedule.specs.declared.chooser.Rule.TheVariants as rule
use Rattle.schedule.specs.declared.staying.Staying.{Staying}
use Rattle.schedule.specs.Choosers as choosers
use Rattle.schedule.specs.Choosers.{Alone, Chooser, Listed, Ranked, RoundRobin, Seeded}

-- Returns the departures that are left.
abbrev pub departures_left : Staying → List Departure
departures_left s = drop s.place s.departures

-- Returns the departures after the next one.
abbrev pub departures_after : Staying → List Departure
departures_after s = drop (s.place + 1) s.departures

-- Returns the chooser that contracts see of departures. After a departure to a thread that isn't enabled it chooses none.
abbrev pub chooser_of_departures : Staying → Chooser
chooser_of_departures s = if s.has_ended then Listed [] else choosers.Staying s.before s.last (departures_left s)

-- For this number of turns no departure is made: that many are before the next one, or none is left.
abbrev pub IsDefaultFor : ℕ → ℕ → List Departure → Type 0
IsDefaultFor turns before departures = (departures ≡ []) ⊎ (turns ≤ before)

-- Returns the chooser that contracts see of a rule.
abbrev pub chooser_of_rule : Rule → Chooser
chooser_of_rule (rule.Listed threads) = Listed threads
chooser_of_rule (rule.RoundRobin turns) = RoundRobin turns.quantum turns.thread turns.turns
chooser_of_rule (rule.Seeded generator) = Seeded generator
chooser_of_rule rule.Alone = Alone
chooser_of_rule (rule.Staying departures) = chooser_of_departures departures
chooser_of_rule (rule.Ranked ranking) = Ranked ranking
