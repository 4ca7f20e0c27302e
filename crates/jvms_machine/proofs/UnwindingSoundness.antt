-- A turn of a thread with a pending exception keeps a sound state sound: a handler takes the object, or the top frame
-- is popped. So does `athrow`.
use Rattle.std.proofs.Common.{◌≡◌, ℕ, ◌<◌, ◌≤◌, Bool, not, ◌&&◌, ◌==◌, List, [], ◌∷◌, length, Option, Some, None, IfSome, codes, slice_get, slice_set, drop, refl, sym, ap, ◌∙◌, subst, arith, length-set}
use Rattle.std.proofs.lemmas.Bool.{cond_both, eqb-false}
use Rattle.jvms_machine.specs.declared.value.Value.{Value}
use Rattle.jvms_machine.specs.declared.machine.Limits.{Limits}
use Rattle.jvms_machine.specs.declared.state.Initialisation.TheVariants as initialisation
use Rattle.jvms_machine.specs.declared.state.StackFrame.TheVariants as stack_frame
use Rattle.jvms_machine.specs.declared.action.Exception.{Exception}
use Rattle.jvms_machine.specs.declared.action.MonitorUse.{MonitorUse}
use Rattle.jvms_machine.specs.declared.action.Action.TheVariants as action
use Rattle.jvms_machine.specs.declared.action.Decision.TheVariants as decision
use Rattle.jvms_program.specs.declared.program.Class.{Class}
use Rattle.jvms_program.specs.declared.program.ExceptionHandler.{ExceptionHandler}
use Rattle.jvms_program.specs.declared.number.MethodNumber.{MethodNumber}
use Rattle.jvms_program.specs.declared.thrown.Thrown.TheVariants as thrown
use Rattle.jvms_program.specs.Program.{IsProgram}
use Rattle.jvms_program.specs.Resolution.{fits}
use Rattle.jvms_machine.specs.Decisions.{TurnDecision}
use Rattle.jvms_machine.specs.State.{State, Object, Thread, Frame, MethodFrame, object_at, class_of, IsThrowable, Sound}
use Rattle.jvms_machine.specs.Start.{Start}
use Rattle.jvms_machine.specs.Exceptions.{exception_reference}
use Rattle.jvms_machine.specs.Unwinding.{handler_of, popped_decision, handler_decision, is_error, failed_with, top_decision, object_decision, unwinding_decision, throwable_decision, throw_top, throw_decision}
use Rattle.jvms_machine.specs.Monitors.{is_empty}
use Rattle.jvms_machine.specs.Actions.{with_unlock, without_arguments, stack_without_operands, top_operands, after_throw, frame_at_handler, top_handling, caught, with_pending, unwound, with_changed, with_initialisation, with_exception, applied_to, items_of}
use Rattle.jvms_machine.specs.Marks.{calls, calls_in, calls_of}
use Rattle.jvms_machine.specs.Turn.{HasRoomToHandle}
use Rattle.jvms_machine.proofs.InitialisationOrder.{order_over, count_call}
use Rattle.jvms_machine.proofs.MarkLaws.{unmarked_by, left_mark, marked_with_unlock, changed_calls}
use Rattle.jvms_machine.proofs.ThreadChanges.{Stands, pending_is, frames_are_stack, given_is_frame, thread_with, changed_is_sound, struck_is_sound, moved_is_sound, stack_below, stack_goes_on}
use Rattle.jvms_machine.proofs.StoredValues.{leads_is_reference}
use Rattle.jvms_machine.proofs.KeptStates.{IsLeft, Keeps, still}
use Rattle.jvms_machine.proofs.ExceptionSoundness.{throwable_by, IsThrown, exception_is_thrown, exception_is_throwable, stands_with_exception}
use Rattle.jvms_machine.proofs.LockSoundness.{stands_with_unlock}
use Rattle.jvms_machine.proofs.UnlockSoundness.{frame_unlocking_keeps}
use Rattle.jvms_machine.proofs.EffectSoundness.{if_deep_keeps}
use Rattle.jvms_machine.proofs.ArraySoundness.{with_object_keeps}

module _ (program : List Class) (limits : Limits) (start : Start) (s : State) (t : ℕ) (thread : Thread) where
  abbrev KeepsSound : TurnDecision → Type 0
  KeepsSound d = Keeps program limits start s t d

  abbrev HasFrames : List Frame → Type 0
  HasFrames frames = Stands program limits s t thread frames

  -- ---- athrow

  module _ (frame : MethodFrame) (below : List Frame) (stands : HasFrames (stack_frame.Call frame ∷ below)) where
    -- The object is removed from the operands, and is pending.
    throws_keeps : (r : ℕ) → IsThrowable program s.heap r → 1 ≤ length frame.activation.operands → KeepsSound (decision.Applies (action.Throws r))
    unfolding applied_to items_of
    throws_keeps r is there =
        let frames = frames_are_stack stands in
        let now = stack_frame.Call (without_arguments 1 frame) ∷ below in
        let are : (after_throw r thread).frames ≡ now = ap (stack_without_operands 1) stands.frames_are in (
          (λ _. struck_is_sound stands (after_throw r) now are is (refl, refl)
              (given_is_frame program s.heap 1 frame frames.0.0, frames.0.1)
              (stack_goes_on program frame (without_arguments 1 frame).activation below frames.1)
              frames.2
              (λ c. count_call c (without_arguments 1 frame) below ∙ sym (count_call c frame below))),
          (λ _ _. subst (λ o. IfSome o (λ (th : Thread). 1 ≤ length (top_operands th.frames))) (sym stands.given_out) (subst (λ (fs : List Frame). 1 ≤ length (top_operands fs)) (sym stands.frames_are) there)),
          unmarked_by program t (calls_of s t) _ (changed_calls s.threads t thread (after_throw r) stands.given_out ∙ ap calls are ∙ sym (ap calls stands.frames_are) ∙ sym (ap calls_in stands.given_out)),
          (λ _. tt),
        )

    throwable_keeps : (r : ℕ) (o : Object) → object_at s.heap r ≡ Some o → 1 ≤ length frame.activation.operands → KeepsSound (throwable_decision program r o)
    throwable_keeps r o at there =
        cond_both (fits program (class_of o) (codes "java/lang/Throwable")) _ _ KeepsSound
        (λ is. throws_keeps r (throwable_by program s.heap r o at is (leads_is_reference s.heap r o at)) there)
        (λ _. still t stands.sound)

    throw_top_keeps : (operands : List Value) → 1 ≤ length frame.activation.operands → KeepsSound (throw_top program limits s thread operands)
    throw_top_keeps [] there = still t stands.sound
    throw_top_keeps (v ∷ others) there =
        with_object_keeps program limits start s t thread frame below stands v (throwable_decision program) (λ r o at. throwable_keeps r o at there)

    pub throw_keeps : KeepsSound (throw_decision program limits s thread frame)
    unfolding throw_decision
    throw_keeps =
        if_deep_keeps program limits start s t thread frame below stands 1 0 _ (λ depth. throw_top_keeps frame.activation.operands depth.there)

    -- ---- A call is on top

    -- A handler takes the object.
    catches_keeps : (r target : ℕ) → thread.pending ≡ Some r → 0 < frame.body.max_stack → KeepsSound (decision.Applies (action.Catches r target))
    unfolding applied_to items_of
    catches_keeps r target pending room =
        let frames = frames_are_stack stands in
        let is = frames.0.0 in
        let after = frame_at_handler r target frame in
        let now = stack_frame.Call after ∷ below in
        let are : (caught r target thread).frames ≡ now = ap (top_handling r target) stands.frames_are in (
          (λ _. struck_is_sound stands (caught r target) now are tt (refl, refl)
              ((is.0, (is.1.0, omega arith), is.2, ((pending_is stands r pending).1, tt), is.4, is.5), frames.0.1)
              (stack_goes_on program frame after.activation below frames.1)
              frames.2
              (λ c. count_call c after below ∙ sym (count_call c frame below))),
          (λ _ _. subst (λ o. IfSome o (λ (th : Thread). HasRoomToHandle th.frames)) (sym stands.given_out) (subst HasRoomToHandle (sym stands.frames_are) room)),
          unmarked_by program t (calls_of s t) _ (changed_calls s.threads t thread (caught r target) stands.given_out ∙ ap calls are ∙ sym (ap calls stands.frames_are) ∙ sym (ap calls_in stands.given_out)),
          (λ _. tt),
        )

    -- The call is popped.
    unwinds_keeps : (last : Bool) (unlock : Option MonitorUse) → IfSome unlock (IsLeft s) → KeepsSound (decision.Applies (action.Unwinds frame.method last unlock))
    unfolding applied_to items_of
    unwinds_keeps last unlock is_left =
        let there = stands_with_unlock stands unlock in
        let frames = frames_are_stack there in
        let few = frames.2 in
        let are : (unwound last thread).frames ≡ below = ap (λ (fs : List Frame). drop 1 fs) stands.frames_are in (
          (λ _. moved_is_sound there (unwound last) below are refl (refl, refl) frames.0.1 (stack_below program (stack_frame.Call frame) below frames.1) (omega arith) (λ c. sym (count_call c frame below))),
          (λ _ _. tt),
          marked_with_unlock program t frame.method unlock ∙ left_mark program t (calls_of s t) _ frame.method
              (ap calls_in stands.given_out ∙ ap calls stands.frames_are
              ∙ ap (λ (ms : List MethodNumber). frame.method ∷ ms) (sym (changed_calls (with_unlock s unlock).threads t thread (unwound last) there.given_out ∙ ap calls are))),
          (λ _. is_left),
        )

    popped_keeps : KeepsSound (popped_decision limits s t frame below)
    popped_keeps = frame_unlocking_keeps program limits start s t thread frame below stands _ (λ unlock is_left. unwinds_keeps (is_empty below) unlock is_left)

    handler_keeps : (r : ℕ) (o : Option ExceptionHandler) → thread.pending ≡ Some r → KeepsSound (handler_decision limits s t frame below r o)
    handler_keeps r None pending = popped_keeps
    handler_keeps r (Some h) pending =
        cond_both (frame.body.max_stack == 0) _ _ KeepsSound
        (λ _. still t stands.sound)
        (λ some. let room = eqb-false frame.body.max_stack 0 some in catches_keeps r h.target pending (omega arith))

  -- ---- An initialisation is on top

  -- The exception that is pending after its failure is a Throwable, or there is room for it.
  failed_is_thrown : {frames : List Frame} → HasFrames frames → (called : Bool) (r : ℕ) (o : Object) → thread.pending ≡ Some r → IsThrown program limits s (failed_with program limits s called r o)
  failed_is_thrown stands called r o pending =
      cond_both (called && not (is_error program o)) _ _ (IsThrown program limits s)
      (λ _. exception_is_thrown program limits s stands.sound thrown.ExceptionInInitializerError)
      (λ _ of_program. pending_is stands r pending)

  module _ (class : ℕ) (called : Bool) (below : List Frame) (stands : HasFrames (stack_frame.Initialisation class called ∷ below)) where
    below_is : drop 1 thread.frames ≡ below
    below_is = ap (λ (fs : List Frame). drop 1 fs) stands.frames_are

    abbrev failing : Exception → Bool → Thread → Thread
    failing e last th = unwound last (with_pending (exception_reference s e) th)

    failed_is_sound : (e : Exception) (last : Bool) → IsThrown program limits s e → IsProgram program → Sound program limits (with_initialisation (with_changed (with_exception program s e) t (failing e last)) class initialisation.Erroneous)
    failed_is_sound e last is of_program =
        let made = with_exception program s e in
        let there = stands_with_exception stands e is in
        let frames = frames_are_stack there in
        let few = frames.2 in
        changed_is_sound there (failing e last) (slice_set made.initialisations class initialisation.Erroneous) made.result (refl, refl)
        (thread_with there (failing e last thread) below below_is (exception_is_throwable program limits s e is of_program) (refl, refl) frames.0.1 (stack_below program (stack_frame.Initialisation class called) below frames.1) (omega arith))
        (length-set made.initialisations class initialisation.Erroneous)
        (order_over made.threads made.initialisations t thread (failing e last thread) there.given_out there.sound.initialised class called initialisation.Erroneous (λ u. refl)
        (stands.frames_are ∙ ap (λ (fs : List Frame). stack_frame.Initialisation class called ∷ fs) (sym below_is)))
        there.sound.result

    -- Its thread has the same calls.
    failed_calls : (e : Exception) (last : Bool) → IsThrown program limits s e → calls_in (slice_get (with_changed (with_exception program s e) t (failing e last)).threads t) ≡ calls_of s t
    failed_calls e last is =
        let there = stands_with_exception stands e is in
        changed_calls (with_exception program s e).threads t thread (failing e last) there.given_out
        ∙ ap calls below_is ∙ sym (ap calls stands.frames_are) ∙ sym (ap calls_in stands.given_out)

    fails_keeps : (e : Exception) (last : Bool) → IsThrown program limits s e → KeepsSound (decision.Applies (action.FailsInitialisation class e last))
    unfolding applied_to items_of
    fails_keeps e last is = (failed_is_sound e last is, (λ _ _. tt), unmarked_by program t (calls_of s t) _ (failed_calls e last is), (λ _. tt))

  -- ---- The turn

  top_keeps : (frames : List Frame) (r : ℕ) (o : Object) → HasFrames frames → thread.pending ≡ Some r → KeepsSound (top_decision program limits s t frames r o)
  top_keeps [] r o stands pending = still t stands.sound
  top_keeps (stack_frame.Call f ∷ below) r o stands pending = handler_keeps f below stands r (handler_of program (class_of o) f) pending
  top_keeps (stack_frame.Initialisation class called ∷ below) r o stands pending =
      fails_keeps class called below stands (failed_with program limits s called r o) (is_empty below) (failed_is_thrown stands called r o pending)

  object_keeps : (r : ℕ) (o : Option Object) → HasFrames thread.frames → thread.pending ≡ Some r → KeepsSound (object_decision program limits s t thread.frames r o)
  object_keeps r None stands pending = still t stands.sound
  object_keeps r (Some o) stands pending = top_keeps thread.frames r o stands pending

  pub unwinding_keeps : (r : ℕ) → HasFrames thread.frames → thread.pending ≡ Some r → KeepsSound (unwinding_decision program limits s t thread r)
  unfolding unwinding_decision
  unwinding_keeps r stands pending = object_keeps r (object_at s.heap r) stands pending
