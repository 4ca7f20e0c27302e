-- The call that a thread's turn continues, and whether its instruction succeeds, by the states.
use Rattle.std.specs.Prelude.{Bool, List, None, Option, Some, false, slice_get, ℕ, ◌+◌, ◌==◌, ◌∷◌}
use Rattle.jvms_machine.specs.State.{Frame, MethodFrame, State, Thread, ThreadStatus, executing, status_of_thread}
use Rattle.jvms_machine.specs.declared.state.StackFrame.TheVariants as stack_frame

-- Returns the call on top of a stack.
abbrev pub call_on : List Frame → Option MethodFrame
call_on (stack_frame.Call f ∷ below) = Some f
call_on frames = None

abbrev pub top_call : Option Thread → Option MethodFrame
top_call None = None
top_call (Some thread) = call_on thread.frames

-- Returns the call whose next instruction a thread's turn executes: the top call of a thread that hasn't ended, has no
-- pending exception and doesn't wait.
abbrev pub call_by : Thread → ThreadStatus → Option MethodFrame
call_by thread executing = call_on thread.frames
call_by thread status = None

abbrev pub next_call : Option Thread → Option MethodFrame
next_call None = None
next_call (Some thread) = call_by thread (status_of_thread thread)

-- Decides whether a call is at the instruction after the one where it was.
abbrev pub is_further : Option MethodFrame → Option MethodFrame → Bool
is_further (Some before) (Some after) = after.activation.place == before.activation.place + 1
is_further before after = false

-- Decides whether the top call of a thread has continued at its next instruction from one state to the next. An
-- instruction that throws leaves the call where it was, and so does a call of `wait`. One that calls a method or begins
-- an initialisation pushes a frame that is at its first instruction, or at none. A waiting thread continues after its
-- call of `wait` when it retakes the monitor, and that turn executes no instruction.
abbrev pub has_continued : ℕ → State → State → Bool
has_continued t before after = is_further (top_call (slice_get before.threads t)) (top_call (slice_get after.threads t))
