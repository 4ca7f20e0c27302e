-- A turn that pops a call leaves the call's monitor, or can't, and keeps a sound state sound.
use Rattle.std.proofs.Common.{◌≡◌, ℕ, Bool, List, ◌∷◌, Option, Some, None, IfSome, slice_get, drop, refl, sym, ap, ◌∙◌, arith}
use Rattle.jvms_machine.specs.declared.machine.Limits.{Limits}
use Rattle.jvms_machine.specs.declared.state.StackFrame.TheVariants as stack_frame
use Rattle.jvms_machine.specs.declared.action.Exception.{Exception}
use Rattle.jvms_machine.specs.declared.action.MonitorUse.{MonitorUse}
use Rattle.jvms_machine.specs.declared.action.Action.TheVariants as action
use Rattle.jvms_machine.specs.declared.action.Decision.TheVariants as decision
use Rattle.jvms_program.specs.declared.program.Class.{Class}
use Rattle.jvms_program.specs.declared.number.MethodNumber.{MethodNumber}
use Rattle.jvms_program.specs.declared.thrown.Thrown.TheVariants as thrown
use Rattle.jvms_program.specs.Program.{IsProgram}
use Rattle.jvms_machine.specs.Decisions.{TurnDecision}
use Rattle.jvms_machine.specs.State.{State, Thread, Frame, MethodFrame, Sound}
use Rattle.jvms_machine.specs.Start.{Start}
use Rattle.jvms_machine.specs.Exceptions.{exception_of, exception_reference}
use Rattle.jvms_machine.specs.Monitors.{monitor_exit, frame_unlocking, is_empty, fails_to_unlock}
use Rattle.jvms_machine.specs.Actions.{with_pending, unwound, with_changed, with_exception, applied_to, items_of}
use Rattle.jvms_machine.specs.Marks.{calls, calls_in, calls_of}
use Rattle.jvms_machine.proofs.InitialisationOrder.{count_call}
use Rattle.jvms_machine.proofs.MarkLaws.{left_mark, changed_calls}
use Rattle.jvms_machine.proofs.ThreadChanges.{Stands, frames_are_stack, struck_is_sound, stack_below}
use Rattle.jvms_machine.proofs.KeptStates.{IsLeft, Keeps}
use Rattle.jvms_machine.proofs.LockSoundness.{monitor_exit_is}
use Rattle.jvms_machine.proofs.ExceptionSoundness.{IsThrown, exception_is_thrown, exception_is_throwable, stands_with_exception}

module _ (program : List Class) (limits : Limits) (start : Start) (s : State) (t : ℕ) (thread : Thread) (frame : MethodFrame) (below : List Frame) (stands : Stands program limits s t thread (stack_frame.Call frame ∷ below)) where
  abbrev KeepsSound : TurnDecision → Type 0
  KeepsSound d = Keeps program limits start s t d

  abbrev failing : Exception → Bool → Thread → Thread
  failing e last th = unwound last (with_pending (exception_reference s e) th)

  below_is : drop 1 thread.frames ≡ below
  below_is = ap (λ (fs : List Frame). drop 1 fs) stands.frames_are

  failed_is_sound : (e : Exception) (last : Bool) → IsThrown program limits s e → IsProgram program → Sound program limits (with_changed (with_exception program s e) t (failing e last))
  failed_is_sound e last is of_program =
      let there = stands_with_exception stands e is in
      let frames = frames_are_stack there in
      let few = frames.2 in
      struck_is_sound there (failing e last) below below_is (exception_is_throwable program limits s e is of_program) (refl, refl) frames.0.1
      (stack_below program (stack_frame.Call frame) below frames.1) (omega arith) (λ c. sym (count_call c frame below))

  failed_calls : (e : Exception) (last : Bool) → IsThrown program limits s e → calls_in (slice_get (with_changed (with_exception program s e) t (failing e last)).threads t) ≡ calls below
  failed_calls e last is =
      changed_calls (with_exception program s e).threads t thread (failing e last) (stands_with_exception stands e is).given_out ∙ ap calls below_is

  fails_keeps : (e : Exception) (last : Bool) → IsThrown program limits s e → KeepsSound (decision.Applies (action.FailsToUnlock frame.method e last))
  unfolding applied_to items_of
  fails_keeps e last is = (
    failed_is_sound e last is,
    (λ _ _. tt),
    left_mark program t (calls_of s t) _ frame.method
        (ap calls_in stands.given_out ∙ ap calls stands.frames_are ∙ ap (λ (ms : List MethodNumber). frame.method ∷ ms) (sym (failed_calls e last is))),
    (λ _. tt),
  )

  frame_unlocking_by : (r : ℕ) (o : Option MonitorUse) (fails : TurnDecision) (make : Option MonitorUse → TurnDecision) → o ≡ monitor_exit s t r → KeepsSound fails → ((unlock : Option MonitorUse) → IfSome unlock (IsLeft s) → KeepsSound (make unlock)) → KeepsSound (frame_unlocking s t (Some r) fails make)
  frame_unlocking_by r None fails make e fail keeps = rw (← e) fail
  frame_unlocking_by r (Some monitor) fails make e fail keeps = rw (← e) (keeps (Some monitor) (monitor_exit_is s t r monitor (sym e)))

  frame_unlocking_one : (o : Option ℕ) (fails : TurnDecision) (make : Option MonitorUse → TurnDecision) → KeepsSound fails → ((unlock : Option MonitorUse) → IfSome unlock (IsLeft s) → KeepsSound (make unlock)) → KeepsSound (frame_unlocking s t o fails make)
  frame_unlocking_one None fails make fail keeps = keeps None tt
  frame_unlocking_one (Some r) fails make fail keeps = frame_unlocking_by r (monitor_exit s t r) fails make refl fail keeps

  -- The top call leaves its monitor, or can't.
  pub frame_unlocking_keeps : (make : Option MonitorUse → TurnDecision) → ((unlock : Option MonitorUse) → IfSome unlock (IsLeft s) → KeepsSound (make unlock)) → KeepsSound (frame_unlocking s t frame.monitor (fails_to_unlock limits s frame.method below) make)
  frame_unlocking_keeps make keeps =
      frame_unlocking_one frame.monitor (fails_to_unlock limits s frame.method below) make
      (fails_keeps (exception_of limits s thrown.IllegalMonitorStateException) (is_empty below) (exception_is_thrown program limits s stands.sound thrown.IllegalMonitorStateException))
      keeps
