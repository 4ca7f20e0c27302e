-- Defines the session of the debugger along the run of a chooser's choices (own).
use Rattle.std.specs.Prelude.{◌≡◌, ℕ, List, Result, Ok, Err}
use Rattle.jvms_file.specs.Results.{◌>>=◌}
use Rattle.jvms_program.specs.declared.program.Class.{Class}
use Rattle.jvms_machine.specs.declared.machine.Entry.{Entry}
use Rattle.jvms_machine.specs.declared.machine.Limits.{Limits}
use Rattle.jvms_machine.specs.Opening.{start_of_entry}
use Rattle.jvms_machine.specs.Start.{Start}
use Rattle.machine.specs.Started.{opened_machine}
use Rattle.schedule.specs.Choosers.{Chooser}
use Rattle.runs.specs.Choices.{choices_from}
use Rattle.inputs.specs.declared.input.Input.{Input}
use Rattle.judge.specs.Programs.{NotRun, not_made, program_in, with_reason}
use Rattle.debugger.specs.Sessions.{Debugger, new_debugger}

-- Returns the session before the first of a chooser's choices from a start on, at most `most` of them.
abbrev pub session_from : ℕ → Chooser → Limits → List Class → Start → Debugger
session_from most chooser limits program start =
    new_debugger (record { program = program; limits = limits; start = start }) (choices_from most chooser (opened_machine program limits start))

-- Returns the session from an entry on, if a machine is made for it.
unfoldable pub session_on : ℕ → Chooser → Limits → List Class → Entry → Result Debugger NotRun
session_on most chooser limits program entry = do
  start ← with_reason not_made (start_of_entry program limits entry)
  Ok (session_from most chooser limits program start)

-- Returns the session on the program of inputs, or why there is none.
unfoldable pub session_of_inputs : ℕ → Chooser → Limits → List Input → Entry → Result Debugger NotRun
session_of_inputs most chooser limits inputs entry = do
  program ← program_in inputs
  session_on most chooser limits program entry

-- These are the choices of the session from an entry on.
abbrev pub AreChoices : ℕ → Chooser → Limits → List Class → Entry → List ℕ → Type 0
AreChoices most chooser limits program entry choices =
    (start : Start) × (start_of_entry program limits entry ≡ Ok start) × (choices ≡ choices_from most chooser (opened_machine program limits start))

-- A session begins, and the relation holds between it and some last session.
abbrev pub HasDebugged : Result Debugger NotRun → (Debugger → Debugger → Type 0) → Type 0
HasDebugged (Ok first) Happened = (last : Debugger) × Happened first last
HasDebugged (Err why) Happened = ⊥
