-- Defines the departures that name a schedule's run, on the program of class files and sources (own).
use Rattle.std.specs.Prelude.{◌≡◌, ℕ, List, Result, Ok}
use Rattle.departures.specs.Departures.{name_of}
use Rattle.departures.specs.declared.departure.Departure.{Departure}
use Rattle.explore_jobs.specs.Children.{turns_in}
use Rattle.explore_jobs.specs.declared.plan.Plan.{Plan}
use Rattle.inputs.specs.declared.input.Input.{Input}
use Rattle.judge.specs.Programs.{NotRun, not_made, program_in, with_reason}
use Rattle.jvms_file.specs.Results.{◌>>=◌}
use Rattle.jvms_machine.specs.Opening.{start_of_entry}
use Rattle.jvms_machine.specs.Start.{Start}
use Rattle.jvms_program.specs.declared.program.Class.{Class}
use Rattle.machine.specs.Machine.{Machine}
use Rattle.machine.specs.Started.{opened_machine}
use Rattle.shrinking.specs.runs.Choices.{choices_from}
use Rattle.schedule.specs.Choosers.{Chooser}

-- Returns the program if a machine of it can be made for a plan, or why not.
abbrev pub fitting_program : Plan → List Class → Result (List Class) NotRun
fitting_program plan program = do
  start ← with_reason not_made (start_of_entry program plan.limits plan.entry)
  Ok program

-- Returns the program of inputs if a machine of it can be made for a plan, or why no run is named.
unfoldable pub program_for : Plan → List Input → Result (List Class) NotRun
program_for plan inputs = do
  program ← program_in inputs
  fitting_program plan program

-- Returns the departures that name the choices of a chooser, at most this number of them, from a machine on.
abbrev pub departures_of : ℕ → Chooser → Machine → List Departure
departures_of most chooser m = name_of (turns_in m) 0 m.state 0 (choices_from most chooser m)

-- The departures name the choices of a chooser's run of the program, at most the plan's turns.
abbrev pub NamesRun : List Class → Plan → Chooser → List Departure → Type 0
NamesRun program plan chooser departures =
    (start : Start) × (start_of_entry program plan.limits plan.entry ≡ Ok start)
    × (departures ≡ departures_of plan.most chooser (opened_machine program plan.limits start))
