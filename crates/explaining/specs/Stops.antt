-- Defines where threads stop that can't continue, although they haven't ended (own).
use Rattle.std.specs.Prelude.{ℕ, Bool, true, false, not, ◌==◌, ◌||◌, cond, List, [], ◌++◌, codes, length, Option, Some}
use Rattle.std.specs.Fmt.{decimal}
use Rattle.std.specs.List.{flat_map, range_with_len}
use Rattle.jvms_file.specs.declared.class_file.ClassFile.{ClassFile}
use Rattle.jvms_machine.specs.declared.machine.Outcome.{Outcome}
use Rattle.jvms_machine.specs.declared.machine.Outcome.TheVariants as outcome
use Rattle.jvms_machine.specs.declared.state.StackFrame.TheVariants as stack_frame
use Rattle.jvms_machine.specs.State.{Frame, MethodFrame}
use Rattle.jvms_machine.specs.Steps.{instruction_at}
use Rattle.jvms_program.specs.declared.program.Class.{Class}
use Rattle.machine.specs.Machine.{Machine, transition_of}
use Rattle.machine.specs.Views.{frame_at}
use Rattle.source_lines.specs.SourceLines.{source_place}
use Rattle.explaining.specs.Places.{call_part, need_part}

-- Decides whether the thread waits for another one, or the instruction table has no turn for it.
abbrev pub is_stopped : Outcome → Bool
is_stopped (outcome.Blocked on) = true
is_stopped (outcome.Bad cause) = true
is_stopped _ = false

-- Decides whether the source place of a call is known, or the reason why its next instruction can't run.
abbrev pub is_known_better : List Class → ℕ → List ClassFile → MethodFrame → Bool
is_known_better program first files f =
    not (length (source_place first files f.method f.activation.place) == 0)
    || not (length (need_part program (instruction_at f)) == 0)

-- Returns where a thread stops, if more is known than the lines of the threads show.
abbrev pub stop_text : List Class → ℕ → List ClassFile → ℕ → Option Frame → List ℕ
stop_text program first files t (Some (stack_frame.Call f)) =
    cond (is_known_better program first files f)
    (codes "thread " ++ decimal t ++ codes " stops" ++ call_part program first files f ++ codes "\n") []
stop_text program first files t _ = []

abbrev pub stop_line : ℕ → List ClassFile → Machine → ℕ → List ℕ
stop_line first files m t =
    cond (is_stopped (transition_of m t).outcome) (stop_text m.program first files t (frame_at m t 0)) []

abbrev pub stop_lines : ℕ → List ClassFile → Machine → List ℕ
stop_lines first files m = flat_map (stop_line first files m) (range_with_len 0 (length m.state.threads))
