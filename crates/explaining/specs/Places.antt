-- Defines where the calls of a run are, in the program and in its sources (own).
use Rattle.std.specs.Prelude.{ℕ, List, [], ◌++◌, codes, Option, Some, None}
use Rattle.jvms_file.specs.declared.class_file.ClassFile.{ClassFile}
use Rattle.jvms_program.specs.declared.number.MethodNumber.{MethodNumber}
use Rattle.jvms_program.specs.declared.program.Class.{Class}
use Rattle.jvms_program.specs.declared.program.Instruction.{Instruction}
use Rattle.jvms_machine.specs.declared.state.StackFrame.TheVariants as stack_frame
use Rattle.jvms_machine.specs.State.{Frame, MethodFrame}
use Rattle.jvms_machine.specs.Steps.{instruction_at}
use Rattle.machine_text.specs.Places.{place_text}
use Rattle.needs.specs.Lines.{need_text}
use Rattle.source_lines.specs.SourceLines.{source_place}

-- Returns ` at C.m.D @i (F.java:12)` for an instruction of a method. The class files are given, with the number of the
-- first one's class.
abbrev pub at_part : List Class → ℕ → List ClassFile → MethodNumber → ℕ → List ℕ
at_part program first files method place =
    codes " at " ++ place_text program method place ++ source_place first files method place

-- Returns the reason why an instruction can't run, if there is one.
abbrev pub need_part : List Class → Option Instruction → List ℕ
need_part program None = []
need_part program (Some i) = need_text program i

-- Returns where a call is, and why its next instruction can't run, if there is a reason.
abbrev pub call_part : List Class → ℕ → List ClassFile → MethodFrame → List ℕ
call_part program first files f =
    at_part program first files f.method f.activation.place ++ need_part program (instruction_at f)

-- Returns where the call of a frame is, if the frame is of a call.
abbrev pub frame_part : List Class → ℕ → List ClassFile → Option Frame → List ℕ
frame_part program first files (Some (stack_frame.Call f)) = call_part program first files f
frame_part program first files _ = []
