-- A turn of any thread keeps a sound state sound, and its action can be applied.
use Rattle.std.proofs.Common.{◌≡◌, ℕ, Bool, true, false, List, [], ◌∷◌, Option, Some, None, IfSome, IsTrue, slice_get, refl, sym, ap, ◌∙◌, subst}
use Rattle.std.specs.List.{filter}
use Rattle.jvms_machine.specs.declared.machine.Limits.{Limits}
use Rattle.jvms_machine.specs.declared.state.Wait.{Wait}
use Rattle.std.proofs.lemmas.Option.{none-some}
use Rattle.jvms_machine.specs.declared.state.StackFrame.TheVariants as stack_frame
use Rattle.jvms_machine.specs.declared.action.FrameAction.{FrameAction}
use Rattle.jvms_machine.specs.declared.action.FrameDecision.{FrameDecision}
use Rattle.jvms_machine.specs.declared.action.FrameDecision.TheVariants as frame_decided
use Rattle.jvms_machine.specs.declared.action.Action.TheVariants as action
use Rattle.jvms_machine.specs.declared.action.Decision.TheVariants as decision
use Rattle.jvms_file.specs.declared.insn.ObjectInsn.TheVariants as object_insn
use Rattle.jvms_file.specs.declared.insn.Simple.TheVariants as simple
use Rattle.jvms_program.specs.declared.program.Class.{Class}
use Rattle.jvms_program.specs.declared.program.Instruction.{Instruction}
use Rattle.jvms_program.specs.declared.program.Instruction.TheVariants as instruction
use Rattle.jvms_program.specs.Program.{IsProgram, method_at}
use Rattle.jvms_machine.specs.Decisions.{TurnDecision}
use Rattle.jvms_machine.specs.State.{State, Thread, status_by, Frame, MethodFrame, IsThread, IsWait, Sound}
use Rattle.jvms_machine.specs.Start.{Start, IsStart}
use Rattle.jvms_machine.specs.Limits.{are_limits}
use Rattle.jvms_machine.specs.Steps.{frame_decision, instruction_at, step_at, top_step}
use Rattle.jvms_machine.specs.Actions.{thread_after_action, applied_to, items_of}
use Rattle.jvms_machine.specs.Marks.{calls_in, calls_of, is_mark, marks_between}
use Rattle.jvms_machine.specs.Turn.{IsReadyToMake, reaching_decision, instruction_decision, frame_turn_decision, frames_decision, started_decision, thread_decision, decide, turn}
use Rattle.jvms_machine.proofs.FrameSoundness.{frame_decision_keeps}
use Rattle.jvms_machine.proofs.FrameSoundness as frame_soundness
use Rattle.jvms_machine.proofs.MarkLaws.{unmarked_by, changed_calls, gone_on_calls}
use Rattle.jvms_machine.proofs.ListLaws.{all_at}
use Rattle.jvms_machine.proofs.ThreadChanges.{IsQuiet, Stands}
use Rattle.jvms_machine.proofs.RetakeSoundness.{waiting_keeps}
use Rattle.jvms_machine.proofs.KeptStates.{Keeps, still}
use Rattle.jvms_machine.proofs.EventLaws.{HasEventsOf, decision_is_told}
use Rattle.jvms_machine.proofs.ExceptionSoundness.{throws_keeps}
use Rattle.jvms_machine.proofs.InitializerSoundness.{initialisation_keeps}
use Rattle.jvms_machine.proofs.CallSoundness.{first_call_keeps, invoke_keeps}
use Rattle.jvms_machine.proofs.ReturnSoundness.{method_return_keeps}
use Rattle.jvms_machine.proofs.UnwindingSoundness.{throw_keeps, unwinding_keeps}
use Rattle.jvms_machine.proofs.EffectSoundness.{frame_is_fit, gone_on_is_sound}
use Rattle.jvms_machine.proofs.FieldSoundness.{field_keeps}
use Rattle.jvms_machine.proofs.MonitorSoundness.{monitor_enter_keeps, monitor_exit_keeps}
use Rattle.jvms_machine.proofs.ArraySoundness.{array_keeps, new_arrays_keeps}
use Rattle.jvms_machine.proofs.ClassSoundness.{class_keeps, loadable_keeps}

module _ (program : List Class) (limits : Limits) (start : Start) (s : State) (t : ℕ) where
  abbrev KeepsSound : TurnDecision → Type 0
  KeepsSound d = Keeps program limits start s t d

  module _ (thread : Thread) where
    abbrev HasFrames : List Frame → Type 0
    HasFrames frames = Stands program limits s t thread frames

    -- ---- Instructions

    -- The top call continues.
    goes_keeps : (frame : MethodFrame) (below : List Frame) (act : FrameAction) → HasFrames (stack_frame.Call frame ∷ below) → top_step thread.frames ≡ frame_decided.Does act → frame_soundness.Keeps s.heap frame.body frame.activation (frame_decided.Does act) → KeepsSound (decision.Applies (action.Goes act))
    unfolding applied_to items_of
    goes_keeps frame below act stands does keeps = (
      (λ _. gone_on_is_sound frame below act stands keeps.0 keeps.1),
      (λ _ _. subst (λ o. IfSome o (λ (th : Thread). top_step th.frames ≡ frame_decided.Does act)) (sym stands.given_out) does),
      unmarked_by program t (calls_of s t) _ (changed_calls s.threads t thread (thread_after_action act) stands.given_out ∙ gone_on_calls act thread.frames ∙ sym (ap calls_in stands.given_out)),
      (λ _. tt),
    )

    -- An instruction that reaches beyond its frame.
    reaching_keeps : (frame : MethodFrame) (below : List Frame) (i : Instruction) → HasFrames (stack_frame.Call frame ∷ below) → instruction_at frame ≡ Some i → IsQuiet thread → KeepsSound (reaching_decision program limits s t thread frame below i)
    unfolding reaching_decision
    reaching_keeps frame below (instruction.Simple (simple.Return how)) stands at quiet =
        method_return_keeps program limits start s t thread frame below how (method_at program frame.method) stands refl (frame_is_fit frame below stands).operands
    reaching_keeps frame below (instruction.Invoke how r) stands at quiet = invoke_keeps program limits start s t thread frame below how r stands at quiet
    reaching_keeps frame below (instruction.Simple (simple.Array i)) stands at quiet = array_keeps program limits start s t thread frame below stands i
    reaching_keeps frame below (instruction.Constant c) stands at quiet = loadable_keeps program limits start s t thread frame below stands c
    reaching_keeps frame below (instruction.Field how r) stands at quiet = field_keeps program limits start s t thread frame below stands how r
    reaching_keeps frame below (instruction.Class how name) stands at quiet = class_keeps program limits start s t thread frame below stands how name
    reaching_keeps frame below (instruction.MultiNewArray dimensions name) stands at quiet = new_arrays_keeps program limits start s t thread frame below stands name dimensions
    reaching_keeps frame below (instruction.Simple (simple.Object object_insn.Throw)) stands at quiet = throw_keeps program limits start s t thread frame below stands
    reaching_keeps frame below (instruction.Simple (simple.Object object_insn.MonitorEnter)) stands at quiet = monitor_enter_keeps program limits start s t thread frame below stands
    reaching_keeps frame below (instruction.Simple (simple.Object object_insn.MonitorExit)) stands at quiet = monitor_exit_keeps program limits start s t thread frame below stands
    reaching_keeps frame below _ stands at quiet = still t stands.sound

    instruction_keeps : (frame : MethodFrame) (below : List Frame) (i : Instruction) (d : FrameDecision) → HasFrames (stack_frame.Call frame ∷ below) → instruction_at frame ≡ Some i → IsQuiet thread → top_step thread.frames ≡ d → frame_soundness.Keeps s.heap frame.body frame.activation d → KeepsSound (instruction_decision program limits s t thread frame below i d)
    instruction_keeps frame below i (frame_decided.Does act) stands at quiet does keeps = goes_keeps frame below act stands does keeps
    instruction_keeps frame below i (frame_decided.Throws class) stands at quiet does keeps = throws_keeps start stands class
    instruction_keeps frame below i (frame_decided.Stops why) stands at quiet does keeps = still t stands.sound
    instruction_keeps frame below i frame_decided.Beyond stands at quiet does keeps = reaching_keeps frame below i stands at quiet

    frame_turn_keeps : (frame : MethodFrame) (below : List Frame) (o : Option Instruction) → HasFrames (stack_frame.Call frame ∷ below) → IsQuiet thread → instruction_at frame ≡ o → KeepsSound (frame_turn_decision program limits s t thread frame below o)
    frame_turn_keeps frame below None stands quiet at = still t stands.sound
    frame_turn_keeps frame below (Some i) stands quiet at =
        instruction_keeps frame below i (frame_decision frame.body i frame.activation) stands at quiet (ap top_step stands.frames_are ∙ ap (step_at frame) at)
        (frame_decision_keeps s.heap frame.body frame.activation (frame_is_fit frame below stands) i)

    -- ---- Turns

    stack_keeps : (frames : List Frame) → IsStart start → HasFrames frames → IsQuiet thread → KeepsSound (frames_decision program limits start s t thread frames)
    stack_keeps [] starts stands quiet = first_call_keeps program limits start s t thread stands starts
    stack_keeps (stack_frame.Initialisation class called ∷ below) starts stands quiet = initialisation_keeps program limits start s t thread class called below (slice_get program class) stands refl
    stack_keeps (stack_frame.Call frame ∷ below) starts stands quiet = frame_turn_keeps frame below (instruction_at frame) stands quiet refl

    -- A thread with a pending exception doesn't wait.
    pub pending_is_awake : (exception : ℕ) (waits : Option Wait) → Sound program limits s → slice_get s.threads t ≡ Some thread → thread.pending ≡ Some exception → thread.waits ≡ waits → thread.waits ≡ None
    pending_is_awake exception None sound at pending is = is
    pending_is_awake exception (Some w) sound at pending is =
        let known = subst (λ o. IfSome o (IsWait s.heap thread)) is (all_at (IsThread program limits s.heap) s.threads t thread at sound.threads).5 in
        absurd (none-some exception (sym known.4 ∙ pending))

    status_keeps : (ended : Bool) (pending : Option ℕ) (waits : Option Wait) → IsStart start → Sound program limits s → slice_get s.threads t ≡ Some thread → thread.ended ≡ ended → thread.pending ≡ pending → thread.waits ≡ waits → KeepsSound (started_decision program limits start s t thread (status_by ended pending waits))
    status_keeps true pending waits starts sound at is_ended is_pending is_waiting = still t sound
    status_keeps false (Some exception) waits starts sound at is_ended is_pending is_waiting =
        unwinding_keeps program limits start s t thread exception
        (record { sound = sound; given_out = at; awake = pending_is_awake exception waits sound at is_pending is_waiting; frames_are = refl }) is_pending
    status_keeps false None (Some w) starts sound at is_ended is_pending is_waiting = waiting_keeps program limits start s t thread w sound at is_waiting
    status_keeps false None None starts sound at is_ended is_pending is_waiting =
        stack_keeps thread.frames starts (record { sound = sound; given_out = at; awake = is_waiting; frames_are = refl }) (is_pending, is_ended)

  thread_keeps : (o : Option Thread) → IsStart start → Sound program limits s → slice_get s.threads t ≡ o → KeepsSound (thread_decision program limits start s t o)
  thread_keeps None starts sound is = still t sound
  thread_keeps (Some thread) starts sound is = status_keeps thread thread.ended thread.pending thread.waits starts sound is refl refl refl

  decide_keeps : IsStart start → Sound program limits s → KeepsSound (decide program limits start s t)
  unfolding decide
  decide_keeps starts sound = thread_keeps (slice_get s.threads t) starts sound refl

-- A turn of any thread keeps a sound state sound.
pub turn_keeps : (program : List Class) (limits : Limits) (start : Start) (s : State) (t : ℕ) → IsProgram program → IsTrue (are_limits limits) → IsStart start → Sound program limits s → Sound program limits (turn program limits start s t).state
unfolding turn
turn_keeps program limits start s t is are starts sound = (decide_keeps program limits start s t starts sound).0 is

-- A decision in a sound state can be applied.
pub decided_is_ready : (program : List Class) (limits : Limits) (start : Start) (s : State) (t : ℕ) → IsProgram program → IsTrue (are_limits limits) → IsStart start → Sound program limits s → IsReadyToMake start s t (decide program limits start s t)
decided_is_ready program limits start s t is are starts sound = (decide_keeps program limits start s t starts sound).1 is are

-- The marks of a turn are those of pushed and popped calls.
pub turn_marks : (program : List Class) (limits : Limits) (start : Start) (s : State) (t : ℕ) → IsTrue (are_limits limits) → IsStart start → Sound program limits s → filter is_mark (turn program limits start s t).items ≡ marks_between program t (calls_of s t) (calls_of (turn program limits start s t).state t)
unfolding turn
turn_marks program limits start s t are starts sound = (decide_keeps program limits start s t starts sound).2

-- The events of a turn are those that its states determine.
pub turn_is_told : (program : List Class) (limits : Limits) (start : Start) (s : State) (t : ℕ) → IsProgram program → IsTrue (are_limits limits) → IsStart start → Sound program limits s → HasEventsOf t s (turn program limits start s t).state (turn program limits start s t).items
unfolding turn
turn_is_told program limits start s t is are starts sound =
    let keeps = decide_keeps program limits start s t starts sound in
    decision_is_told program limits start s t sound (decide program limits start s t) (keeps.1 is are) (keeps.3 is)
