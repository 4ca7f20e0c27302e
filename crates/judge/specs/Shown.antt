-- Defines what the run of the program of inputs shows, by the choices of a chooser.
use Rattle.std.specs.Prelude.{ℕ, List, Result}
use Rattle.jvms_file.specs.Results.{◌>>=◌}
use Rattle.jvms_program.specs.declared.program.Class.{Class}
use Rattle.jvms_machine.specs.declared.machine.Entry.{Entry}
use Rattle.jvms_machine.specs.declared.machine.Limits.{Limits}
use Rattle.program_runs.specs.schedule.Choosers.{Chooser}
use Rattle.program_runs.specs.Shown.{Shown, program_chooser_left, view_of_program}
use Rattle.inputs.specs.declared.input.Input.{Input}
use Rattle.judge.specs.Programs.{NotRun, not_made, program_in, with_reason}

-- Returns what the run from an entry on shows, or why there is no run.
abbrev pub program_judged : ℕ → Chooser → Limits → List Class → Entry → Result Shown NotRun
program_judged most chooser limits program entry = with_reason not_made (view_of_program most chooser limits program entry)

-- Returns what the run of the program of inputs shows from an entry on, or why there is none.
unfoldable pub run_judged : ℕ → Chooser → Limits → List Input → Entry → Result Shown NotRun
run_judged most chooser limits inputs entry = do
  program ← program_in inputs
  program_judged most chooser limits program entry

-- Returns the chooser after its choices for the program of inputs, or why there is none.
unfoldable pub chooser_left : ℕ → Chooser → Limits → List Input → Entry → Result Chooser NotRun
chooser_left most chooser limits inputs entry = do
  program ← program_in inputs
  with_reason not_made (program_chooser_left most chooser limits program entry)
