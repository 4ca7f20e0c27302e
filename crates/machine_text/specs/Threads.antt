-- Threads and their frames, as the debugger writes them (own).
use Rattle.std.specs.Prelude.{ℕ, List, [], ◌++◌, codes, Option, Some, None, reverse, slice_get}
use Rattle.std.specs.Fmt.{decimal}
use Rattle.std.specs.List.{enumerate_from, flat_map}
use Rattle.jvms_machine.specs.declared.state.StackFrame.TheVariants as stack_frame
use Rattle.jvms_machine.specs.State.{Frame, Thread}
use Rattle.jvms_program.specs.declared.program.Class.{Class}
use Rattle.machine.specs.Machine.{Machine, transition_of}
use Rattle.machine.specs.Views.{thread_at}
use Rattle.machine_text.specs.Outcomes.{outcome_text}
use Rattle.machine_text.specs.Places.{class_name_text, place_text}
use Rattle.machine_text.specs.Values.{values_text}

-- ---- Threads

-- Returns the text `C.m.D @i` of a call, or `init C`.
abbrev pub frame_text : List Class → Frame → List ℕ
frame_text program (stack_frame.Call f) = place_text program f.method f.activation.place
frame_text program (stack_frame.Initialisation class called) = codes "init " ++ class_name_text program class

abbrev pub top_text : List Class → Option Frame → List ℕ
top_text program None = []
top_text program (Some f) = codes " at " ++ frame_text program f

abbrev pub pending_text : Option ℕ → List ℕ
pending_text None = []
pending_text (Some r) = codes " pending " ++ decimal r

-- Returns the line of a thread, with the outcome of its next turn, its top frame and its pending exception.
abbrev pub thread_line : Machine → ℕ → Thread → List ℕ
thread_line m t thread =
    codes "thread " ++ decimal t ++ codes " " ++ outcome_text m.program (transition_of m t).outcome
    ++ top_text m.program (slice_get thread.frames 0) ++ pending_text thread.pending ++ codes "\n"

abbrev pub threads_text : Machine → List ℕ
threads_text m = flat_map (λ numbered. thread_line m numbered.0 numbered.1) (enumerate_from 0 m.state.threads)

-- ---- Frames

-- Returns the line of a frame. A call has its local variables and its operands, the topmost last.
abbrev pub frame_line : List Class → Frame → List ℕ
frame_line program (stack_frame.Call f) =
    frame_text program (stack_frame.Call f) ++ codes " locals" ++ values_text f.activation.locals
    ++ codes " stack" ++ values_text (reverse f.activation.operands) ++ codes "\n"
frame_line program (stack_frame.Initialisation class called) = frame_text program (stack_frame.Initialisation class called) ++ codes "\n"

abbrev pub frame_lines : List Class → Option Thread → List ℕ
frame_lines program None = []
frame_lines program (Some thread) = flat_map (frame_line program) thread.frames

-- Returns the lines of a thread's frames, from the top.
abbrev pub frames_text : Machine → ℕ → List ℕ
frames_text m t = frame_lines m.program (thread_at m t)
