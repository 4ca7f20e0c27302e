-- The run of a program by the choices of a chooser, as contracts show it.
use Rattle.std.specs.Prelude.{◌≡◌, ℕ, List, length, Option, Result, Ok, Err}
use Rattle.jvms_file.specs.Results.{◌>>=◌}
use Rattle.jvms_program.specs.declared.program.Class.{Class}
use Rattle.jvms_machine.specs.declared.machine.Entry.{Entry}
use Rattle.jvms_machine.specs.declared.machine.Limits.{Limits}
use Rattle.jvms_machine.specs.declared.machine.Outcome.{Outcome}
use Rattle.jvms_machine.specs.declared.machine.Status.{Status}
use Rattle.jvms_machine.specs.declared.trace.Item.{Item}
use Rattle.jvms_machine.specs.declared.value.Value.{Value}
use Rattle.jvms_machine.specs.Opening.{StartFault, start_of_entry}
use Rattle.jvms_machine.specs.Status.{status_of}
use Rattle.runs.specs.machine.Machine.{Machine}
use Rattle.runs.specs.machine.Runs.{run_of}
use Rattle.runs.specs.machine.Started.{opened_machine}
use Rattle.runs.specs.schedule.Choosers.{Chooser}
use Rattle.runs.specs.declared.ending.Ending.{Ending}
use Rattle.runs.specs.Choices.{choices_from, chooser_after_choices}
use Rattle.runs.specs.Endings.{uncaught_threads}
use Rattle.program_runs.specs.declared.tracing.TracedRun.{TracedRun}

-- The choices of a run, and what they lead to.
pub record Shown : Type 0 where
  pub choices : List ℕ
  pub outcomes : List Outcome
  pub result : Option Value
  pub output : List ℕ
  pub items : List Item
  pub status : Status
  pub uncaught : List (ℕ × List ℕ)

-- Returns the run of these choices by the instruction table.
abbrev pub view_of_choices : Machine → List ℕ → Shown
view_of_choices m choices =
    let r = run_of m choices in
    record {
      choices = choices;
      outcomes = r.outcomes;
      result = r.state.result;
      output = r.state.output;
      items = r.items;
      status = status_of m.program m.limits m.start r.state;
      uncaught = uncaught_threads r.state;
    }

-- Returns the run of all choices that a chooser gives, up to `most`.
abbrev pub view_of_run : ℕ → Chooser → Machine → Shown
view_of_run most chooser m = view_of_choices m (choices_from most chooser m)

-- Returns the run of a program from an entry, if a machine is made for it.
unfoldable pub view_of_program : ℕ → Chooser → Limits → List Class → Entry → Result Shown StartFault
view_of_program most chooser limits program entry = do
  start ← start_of_entry program limits entry
  Ok (view_of_run most chooser (opened_machine program limits start))

-- Returns the chooser after its choices, if a machine is made.
unfoldable pub program_chooser_left : ℕ → Chooser → Limits → List Class → Entry → Result Chooser StartFault
program_chooser_left most chooser limits program entry = do
  start ← start_of_entry program limits entry
  Ok (chooser_after_choices most chooser (opened_machine program limits start))

-- Returns what a traced run shows.
abbrev pub view_of_traced : TracedRun → Shown
view_of_traced run =
    record {
      choices = run.choices;
      outcomes = run.outcomes;
      result = run.ending.result;
      output = run.ending.output;
      items = run.trace;
      status = run.ending.status;
      uncaught = run.ending.uncaught;
    }

-- Returns the ending of a run, without its choices, outcomes and items.
abbrev pub ending_shown : Shown → Ending
ending_shown shown =
    record {
      turns = length shown.choices;
      result = shown.result;
      output = shown.output;
      status = shown.status;
      uncaught = shown.uncaught;
    }

-- There is a run, and it has this ending.
abbrev pub HasEnding : {E : Type 0} → Result Shown E → Ending → Type 0
HasEnding (Ok shown) ending = ending ≡ ending_shown shown
HasEnding (Err why) ending = ⊥
