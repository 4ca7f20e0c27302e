-- The children of a job: schedules with one more departure, at a later position.
use Rattle.std.specs.Prelude.{ℕ, Bool, List, [], ◌∷◌, ◌++◌, map}
use Rattle.departures.specs.Turns.{Turns}
use Rattle.departures.specs.declared.departure.Departure.{Departure}
use Rattle.jvms_machine.specs.State.{State}
use Rattle.explore_jobs.specs.Stays.{stays}
use Rattle.local_turns.specs.Turns.{turns_of}
use Rattle.campaign_jobs.specs.machine.Machine.{Machine}
use Rattle.velodrome.specs.Specification.{Specification}

-- Returns the turns of a machine's program, limits and start, in any state.
abbrev pub turns_in : Machine → Turns State
turns_in m = turns_of m.program m.limits m.start

-- Decides whether a thread stays in a state of a machine's program, limits and start.
abbrev pub stays_in : Specification → Machine → State → ℕ → Bool
stays_in within m = stays m.program m.limits m.start within

-- Returns the names that have one of these departures more.
abbrev pub with_each : List Departure → List Departure → List (List Departure)
with_each departures added = map (λ d. departures ++ d ∷ []) added
