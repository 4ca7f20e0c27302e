-- A thread with a pending exception is enabled.
use Rattle.std.proofs.Common.{◌≡◌, ℕ, zero, suc, ◌<◌, true, false, ◌==◌, eqb-true, List, [], ◌∷◌, Option, Some, None, slice_get, get_or, refl, sym, ap, ◌∙◌, subst, arith}
use Rattle.std.proofs.lemmas.Bool.{cond_both}
use Rattle.std.proofs.lemmas.Option.{slice_get-get_or}
use Rattle.jvms_machine.specs.declared.machine.Limits.{Limits}
use Rattle.jvms_machine.specs.declared.state.StackFrame.TheVariants as stack_frame
use Rattle.jvms_machine.specs.declared.action.MonitorUse.{MonitorUse}
use Rattle.jvms_machine.specs.declared.action.Action.TheVariants as action
use Rattle.jvms_program.specs.declared.program.Class.{Class}
use Rattle.jvms_program.specs.declared.program.ExceptionHandler.{ExceptionHandler}
use Rattle.jvms_program.specs.declared.thrown.Thrown.TheVariants as thrown
use Rattle.jvms_machine.specs.Decisions.{TurnDecision, outcome_of}
use Rattle.jvms_machine.specs.State.{State, Object, text, Thread, status_by, Frame, MethodFrame, object_at, class_of, IsReference, Sound}
use Rattle.jvms_machine.specs.Start.{Start}
use Rattle.jvms_machine.specs.Status.{is_enabled}
use Rattle.jvms_machine.specs.Unwinding.{CanBeUnwound, handler_of, popped_decision, handler_decision, failed_with, top_decision, object_decision, unwinding_decision}
use Rattle.jvms_machine.specs.Exceptions.{exception_of}
use Rattle.jvms_machine.specs.Monitors.{is_empty, monitor_exit, frame_unlocking}
use Rattle.jvms_machine.specs.Turn.{started_decision, thread_decision, decide, turn}
use Rattle.jvms_machine.proofs.ThreadChanges.{Stands, pending_is}
use Rattle.jvms_machine.proofs.UnmadeTurns.{action_is_enabled}
use Rattle.jvms_machine.proofs.TurnSoundness.{pending_is_awake}

-- The decision is one of an enabled thread.
abbrev IsMade : TurnDecision → Type 0
IsMade d = is_enabled (outcome_of d) ≡ true

-- A reference has an object.
reference_leads : (heap : List Object) (r : ℕ) → IsReference heap r → (o : Object) × (object_at heap r ≡ Some o)
reference_leads heap zero is = absurd (omega (arith, is.0))
reference_leads heap (suc i) is = (get_or heap i (text []), slice_get-get_or heap i (text []) (omega (arith, is.1)))

module _ (program : List Class) (limits : Limits) (s : State) where
  -- ---- The top frame

  frame_unlocking_by : (t r : ℕ) (o : Option MonitorUse) (fails : TurnDecision) (make : Option MonitorUse → TurnDecision) → o ≡ monitor_exit s t r → IsMade fails → ((unlock : Option MonitorUse) → IsMade (make unlock)) → IsMade (frame_unlocking s t (Some r) fails make)
  frame_unlocking_by t r None fails make e fail made = rw (← e) fail
  frame_unlocking_by t r (Some monitor) fails make e fail made = rw (← e) (made (Some monitor))

  frame_unlocking_is_made : (t : ℕ) (o : Option ℕ) (fails : TurnDecision) (make : Option MonitorUse → TurnDecision) → IsMade fails → ((unlock : Option MonitorUse) → IsMade (make unlock)) → IsMade (frame_unlocking s t o fails make)
  frame_unlocking_is_made t None fails make fail made = made None
  frame_unlocking_is_made t (Some r) fails make fail made = frame_unlocking_by t r (monitor_exit s t r) fails make refl fail made

  popped_is_made : (t : ℕ) (f : MethodFrame) (below : List Frame) → IsMade (popped_decision limits s t f below)
  popped_is_made t f below =
      frame_unlocking_is_made t f.monitor _ _
      (action_is_enabled (action.FailsToUnlock f.method (exception_of limits s thrown.IllegalMonitorStateException) (is_empty below)))
      (λ unlock. action_is_enabled (action.Unwinds f.method (is_empty below) unlock))

  handler_is_made : (t : ℕ) (f : MethodFrame) (below : List Frame) (r : ℕ) (o : Option ExceptionHandler) → 0 < f.body.max_stack → IsMade (handler_decision limits s t f below r o)
  handler_is_made t f below r None room = popped_is_made t f below
  handler_is_made t f below r (Some h) room =
      cond_both (f.body.max_stack == 0) _ _ IsMade
      (λ none. let is = eqb-true f.body.max_stack 0 none in absurd (omega arith))
      (λ _. action_is_enabled (action.Catches r h.target))

  top_is_made : (t : ℕ) (thread : Thread) (frames : List Frame) (r : ℕ) (o : Object) → Stands program limits s t thread frames → CanBeUnwound frames → IsMade (top_decision program limits s t frames r o)
  top_is_made t thread [] r o stands can = absurd can
  top_is_made t thread (stack_frame.Call f ∷ below) r o stands can =
      handler_is_made t f below r (handler_of program (class_of o) f) can
  top_is_made t thread (stack_frame.Initialisation class called ∷ below) r o stands can =
      action_is_enabled (action.FailsInitialisation class (failed_with program limits s called r o) (is_empty below))

  -- ---- The turn

  unwinding_is_made : (t : ℕ) (thread : Thread) (r : ℕ) → Stands program limits s t thread thread.frames → thread.pending ≡ Some r → CanBeUnwound thread.frames → IsMade (unwinding_decision program limits s t thread r)
  unfolding unwinding_decision
  unwinding_is_made t thread r stands pending can =
      let led = reference_leads s.heap r (pending_is stands r pending).1 in
      subst (λ (o : Option Object). IsMade (object_decision program limits s t thread.frames r o)) (sym led.1) (top_is_made t thread thread.frames r led.0 stands can)

  -- The turn of a thread with a pending exception unwinds it.
  decides_to_unwind : (start : Start) (t : ℕ) (thread : Thread) (r : ℕ) → slice_get s.threads t ≡ Some thread → thread.ended ≡ false → thread.pending ≡ Some r → decide program limits start s t ≡ unwinding_decision program limits s t thread r
  unfolding decide
  decides_to_unwind start t thread r given_out live pending =
      ap (thread_decision program limits start s t) given_out
      ∙ ap (started_decision program limits start s t thread) (ap (λ b. status_by b thread.pending thread.waits) live ∙ ap (λ o. status_by false o thread.waits) pending)

pub pending_is_unwound : (program : List Class) (limits : Limits) (start : Start) (s : State) (t : ℕ) (thread : Thread) (r : ℕ) → Sound program limits s → slice_get s.threads t ≡ Some thread → thread.ended ≡ false → thread.pending ≡ Some r → CanBeUnwound thread.frames → is_enabled (turn program limits start s t).outcome ≡ true
unfolding turn
pending_is_unwound program limits start s t thread r sound given_out live pending can =
    subst IsMade (sym (decides_to_unwind program limits s start t thread r given_out live pending))
    (unwinding_is_made program limits s t thread r
    (record { sound = sound; given_out = given_out; awake = pending_is_awake program limits start s t thread r thread.waits sound given_out pending refl; frames_are = refl }) pending can)
