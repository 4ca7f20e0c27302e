-- Defines the lines that explain a run (own). They are those of its cycle, if a specification finds one, of where
-- uncaught exceptions were thrown, and of its threads, if none can continue.
use Rattle.std.specs.Prelude.{ℕ, ◌-◌, Bool, true, false, cond, List, [], ◌++◌, length, map, Option, Some, None, Result, Ok}
use Rattle.jvms_file.specs.declared.class_file.ClassFile.{ClassFile}
use Rattle.jvms_file.specs.Results.{◌>>=◌}
use Rattle.jvms_program.specs.declared.program.Class.{Class}
use Rattle.jvms_machine.specs.declared.machine.Entry.{Entry}
use Rattle.jvms_machine.specs.declared.machine.Limits.{Limits}
use Rattle.jvms_machine.specs.declared.machine.Status.{Status}
use Rattle.jvms_machine.specs.declared.machine.Status.TheVariants as status
use Rattle.jvms_machine.specs.declared.trace.Item.{Item}
use Rattle.jvms_machine.specs.Opening.{StartFault, start_of_entry}
use Rattle.machine.specs.Machine.{Machine, with_state}
use Rattle.machine.specs.Runs.{run_of}
use Rattle.machine.specs.Started.{opened_machine}
use Rattle.machine_text.specs.Threads.{threads_text}
use Rattle.schedule.specs.Choosers.{Chooser}
use Rattle.velodrome.specs.Specification.{Specification}
use Rattle.program_runs.specs.declared.feeding.Judgement.{Judgement}
use Rattle.program_runs.specs.Shown.{Shown, view_of_run}
use Rattle.report.specs.CycleTexts.{explanation}
use Rattle.inputs.specs.declared.input.Input.{Input}
use Rattle.judge.specs.Programs.{NotRun, classes_from, not_made, program_in, with_reason}
use Rattle.needs.specs.Unmatched.{unmatched_lines}
use Rattle.explaining.specs.declared.event_turns.EventTurn.{EventTurn}
use Rattle.explaining.specs.EventPlaces.{event_places, pairs_of}
use Rattle.explaining.specs.EventTurns.{event_turns}
use Rattle.explaining.specs.Stops.{stop_lines}
use Rattle.explaining.specs.Throws.{throw_lines}

-- Returns the explanation of the verdict of a specification, if there is one: the cycle, where its events are in the
-- program, and the lines that match no method.
abbrev pub verdict_part : List Class → ℕ → List ClassFile → Option Specification → Option Judgement → List Item → List EventTurn → List ℕ
verdict_part program first files (Some lines) (Some j) items events =
    explanation (record { lines = lines; items = items; turns = map (λ e. e.turn) events }) j.verdict
    ++ event_places program first files (pairs_of j.verdict) 1 events ++ unmatched_lines program lines
verdict_part program first files lines j items events = []

-- Decides whether no thread can continue, although not all have ended.
abbrev pub is_stuck : Status → Bool
is_stuck status.Deadlocked = true
is_stuck status.Stalled = true
is_stuck _ = false

-- Returns the lines of the threads, if they are stuck: where they stop, and the outcome of each one's next turn with
-- its place.
abbrev pub threads_part : ℕ → List ClassFile → Status → Machine → List ℕ
threads_part first files s m = cond (is_stuck s) (stop_lines first files m ++ threads_text m) []

-- Returns the machine after the turns of choices.
abbrev pub machine_after : Machine → List ℕ → Machine
machine_after m choices = with_state m (run_of m choices).state

-- Returns the lines of where uncaught exceptions were thrown, and of the threads if they are stuck.
abbrev pub stuck_lines : ℕ → List ClassFile → Machine → List ℕ → List (ℕ × List ℕ) → Status → List ℕ
stuck_lines first files m choices uncaught s =
    throw_lines first files m choices uncaught ++ threads_part first files s (machine_after m choices)

abbrev pub run_explanation : ℕ → List ClassFile → Option Specification → Option Judgement → Machine → Shown → List ℕ
run_explanation first files lines j m shown =
    verdict_part m.program first files lines j shown.items (event_turns 1 m shown.choices)
    ++ stuck_lines first files m shown.choices shown.uncaught shown.status

-- Returns the explanation of the run of a chooser's choices, up to `most`, from an entry of a program on.
unfoldable pub program_explanation : ℕ → List ClassFile → Option Specification → Option Judgement → ℕ → Chooser → Limits → List Class → Entry → Result (List ℕ) StartFault
program_explanation first files lines j most chooser limits program entry = do
  start ← start_of_entry program limits entry
  Ok (run_explanation first files lines j (opened_machine program limits start) (view_of_run most chooser (opened_machine program limits start)))

-- Returns the explanation for the program of inputs. Its last classes are those of the inputs.
unfoldable pub explanation_of_inputs : Option Specification → Option Judgement → ℕ → Chooser → Limits → List Input → Entry → Result (List ℕ) NotRun
explanation_of_inputs lines j most chooser limits inputs entry = do
  program ← program_in inputs
  files ← classes_from 0 inputs
  with_reason not_made (program_explanation (length program - length files) files lines j most chooser limits program entry)
