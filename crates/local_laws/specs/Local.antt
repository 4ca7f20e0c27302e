-- Local turns: those that touch their own thread alone, and add at most marks to the trace.
use Rattle.std.specs.Prelude.{ℕ, Bool, true, false, ◌&&◌, ◌||◌, List, ◌∷◌, is_some, slice_get, Option, Some, None}
use Rattle.jvms_file.specs.declared.insn.Simple.TheVariants as simple
use Rattle.jvms_machine.specs.Start.{Start}
use Rattle.jvms_machine.specs.State.{Frame, State, Thread, ThreadStatus, executing, status_of_thread}
use Rattle.jvms_machine.specs.Steps.{instruction_at, top_step}
use Rattle.jvms_machine.specs.Turn.{decide}
use Rattle.jvms_machine.specs.declared.action.Action.{Action}
use Rattle.jvms_machine.specs.declared.action.Action.TheVariants as action
use Rattle.jvms_machine.specs.declared.action.Decision.{Decision}
use Rattle.jvms_machine.specs.declared.action.Decision.TheVariants as decision
use Rattle.jvms_machine.specs.declared.action.FrameAction.{FrameAction}
use Rattle.jvms_machine.specs.declared.action.FrameDecision.{FrameDecision}
use Rattle.jvms_machine.specs.declared.action.FrameDecision.TheVariants as frame_decided
use Rattle.jvms_machine.specs.declared.action.Lock.TheVariants as lock
use Rattle.jvms_machine.specs.declared.machine.Limits.{Limits}
use Rattle.jvms_machine.specs.declared.state.StackFrame.TheVariants as stack_frame
use Rattle.jvms_program.specs.declared.program.Class.{Class}
use Rattle.jvms_program.specs.declared.program.Instruction.{Instruction}
use Rattle.jvms_program.specs.declared.program.Instruction.TheVariants as instruction

-- ---- Turns of the top frame

abbrev pub frame_action_in : FrameDecision → Option FrameAction
frame_action_in (frame_decided.Does act) = Some act
frame_action_in _ = None

abbrev pub frame_action_by : ThreadStatus → Thread → Option FrameAction
frame_action_by executing thread = frame_action_in (top_step thread.frames)
frame_action_by _ thread = None

-- Returns the action of a thread's next turn, if it touches the top frame alone.
abbrev pub frame_action : Option Thread → Option FrameAction
frame_action None = None
frame_action (Some thread) = frame_action_by (status_of_thread thread) thread

-- ---- Calls and returns

-- Decides whether an action is a call that enters no monitor, or a return that leaves none and doesn't end its thread.
abbrev pub is_local_action : {C : Type 0} → {T : Type 0} → Action C T → Bool
is_local_action (action.Calls method body takes lock.Nothing) = true
is_local_action (action.Returns method result None) = true
is_local_action _ = false

-- Decides whether a turn of this decision is such a call or return.
abbrev pub is_local_decision : {C : Type 0} → {T : Type 0} → Decision C T → Bool
is_local_decision (decision.Applies act) = is_local_action act
is_local_decision (decision.Stays o) = false

abbrev pub calls_or_returns : Option Instruction → Bool
calls_or_returns (Some (instruction.Simple (simple.Return how))) = true
calls_or_returns (Some (instruction.Invoke how r)) = true
calls_or_returns _ = false

abbrev pub top_calls_or_returns : List Frame → Bool
top_calls_or_returns (stack_frame.Call frame ∷ below) = calls_or_returns (instruction_at frame)
top_calls_or_returns _ = false

abbrev pub status_calls_or_returns : ThreadStatus → Thread → Bool
status_calls_or_returns executing thread = top_calls_or_returns thread.frames
status_calls_or_returns _ thread = false

-- Decides whether a thread's next instruction is a call or a return.
abbrev pub thread_calls_or_returns : Option Thread → Bool
thread_calls_or_returns None = false
thread_calls_or_returns (Some thread) = status_calls_or_returns (status_of_thread thread) thread

-- Decides whether a thread's next turn touches its top frame alone, or is a call that enters no monitor or a return that
-- leaves none.
abbrev pub is_local : List Class → Limits → Start → State → ℕ → Bool
is_local program limits start s t =
    is_some (frame_action (slice_get s.threads t))
    || (thread_calls_or_returns (slice_get s.threads t) && is_local_decision (decide program limits start s t))
