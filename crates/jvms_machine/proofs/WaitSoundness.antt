-- A turn of `wait`, `notify` or `notifyAll` keeps a sound state sound.
use Rattle.std.proofs.Common.{◌≡◌, ℕ, ◌≤◌, ◌==◌, Bool, true, List, ◌∷◌, length, Option, Some, None, IfSome, slice_get, slice_set, count_by, codes, eq-eqb, refl, sym, ap, ◌∙◌, subst, arith, length-set}
use Rattle.std.specs.List.{AllByRecursion}
use Rattle.std.proofs.lemmas.Bool.{cond_both, eqb-true}
use Rattle.std.proofs.lemmas.Option.{slice_get_within}
use Rattle.jvms_machine.specs.declared.value.Value.{Value}
use Rattle.jvms_machine.specs.declared.value.Value.TheVariants as value
use Rattle.jvms_machine.specs.declared.machine.Limits.{Limits}
use Rattle.jvms_machine.specs.declared.state.Hold.{Hold}
use Rattle.jvms_machine.specs.declared.state.Wait.{Wait}
use Rattle.jvms_machine.specs.declared.state.StackFrame.TheVariants as stack_frame
use Rattle.jvms_machine.specs.declared.action.Effect.TheVariants as effect
use Rattle.jvms_machine.specs.declared.action.Action.TheVariants as action
use Rattle.jvms_machine.specs.declared.action.Decision.TheVariants as decision
use Rattle.jvms_file.specs.Names.{same_text}
use Rattle.jvms_program.specs.declared.program.Class.{Class}
use Rattle.jvms_program.specs.declared.program.Method.{Method}
use Rattle.jvms_program.specs.declared.thrown.Thrown.TheVariants as thrown
use Rattle.jvms_machine.specs.Decisions.{TurnDecision}
use Rattle.jvms_machine.specs.State.{State, Thread, Frame, MethodFrame, monitor_at, waits_for, is_initialisation_of, IsAtInvoke, IsFrame, IsHold, IsReference, IsStack, IsThread, IsWait, Sound}
use Rattle.jvms_machine.specs.Start.{Start}
use Rattle.jvms_machine.specs.Fields.{next_action}
use Rattle.jvms_machine.specs.Actions.{changed_to, without_arguments, put_to_wait, stack_without_operands, top_operands, with_changed, with_waiter, applied_to, items_of}
use Rattle.jvms_machine.specs.Marks.{calls_in, calls_of}
use Rattle.jvms_machine.specs.Waiting.{freed_monitor, object_native_decision, owner_decision, waits_or_notifies, without_notified}
use Rattle.jvms_machine.proofs.ListLaws.{all_set, get_set_same}
use Rattle.jvms_machine.proofs.InitialisationOrder.{count_call, order_with_thread}
use Rattle.jvms_machine.proofs.MarkLaws.{unmarked_by, changed_calls, given_calls}
use Rattle.jvms_machine.proofs.MonitorLaws.{held_is, removed_are}
use Rattle.jvms_machine.proofs.ThreadChanges.{IsQuiet, Stands, first_thread_set, frames_are_stack, given_is_frame, monitors_held, own_objects_set, stack_goes_on, thread_is}
use Rattle.jvms_machine.proofs.WaiterLaws.{awake_is_other, freed_awake, one_more_waits, others_wait, unnotified_wait}
use Rattle.jvms_machine.proofs.KeptStates.{Keeps, still}
use Rattle.jvms_machine.proofs.ExceptionSoundness.{throws_keeps}
use Rattle.jvms_machine.proofs.EffectSoundness.{reaches_keeps}

-- ---- notify and notifyAll

-- The state stays sound when waiters are notified.
notified_is_sound : {program : List Class} {limits : Limits} {s : State} → Sound program limits s → (r : ℕ) (all : Bool) → Sound program limits (record s { waiters = without_notified r all s.waiters })
notified_is_sound {s = s} sound r all =
    record {
      opened = sound.opened;
      objects_are = sound.objects_are;
      monitors = sound.monitors;
      waiters = unnotified_wait s.threads r all s.waiters sound.waiters;
      out_of_memory = sound.out_of_memory;
      stack_overflow = sound.stack_overflow;
      statics = sound.statics;
      static_values = sound.static_values;
      classes = sound.classes;
      threads = sound.threads;
      first_thread = sound.first_thread;
      own_objects = sound.own_objects;
      initialised = sound.initialised;
      result = sound.result;
      objects = sound.objects;
      elements = sound.elements;
      thread_count = sound.thread_count;
    }

-- ---- wait

module _ (program : List Class) (limits : Limits) (start : Start) (s : State) (t : ℕ) (thread : Thread) (frame : MethodFrame) (below : List Frame) (stands : Stands program limits s t thread (stack_frame.Call frame ∷ below)) where
  abbrev KeepsSound : TurnDecision → Type 0
  KeepsSound d = Keeps program limits start s t d

  -- The known facts about a wait that begins.
  record IsBegun (w : Wait) : Type 0 where
    pub at_invoke : IsAtInvoke (stack_frame.Call frame ∷ below)
    pub quiet : IsQuiet thread
    pub held : monitor_at s.monitors w.reference ≡ Some (record { owner = t; count = w.count })
    pub there : 1 ≤ length frame.activation.operands

  abbrev now : List Frame
  now = stack_frame.Call (without_arguments 1 frame) ∷ below

  frames_after : (w : Wait) → (put_to_wait w thread).frames ≡ now
  frames_after w = ap (stack_without_operands 1) stands.frames_are

  -- The thread's wait is valid: the object exists, and the monitor was entered.
  wait_is : (w : Wait) → IsBegun w → IsWait s.heap (put_to_wait w thread) w
  wait_is w begun =
      let held = subst (λ o. IfSome o (λ h. IsReference s.heap w.reference × IsHold s.threads w.reference h)) begun.held (held_is s.heap s.threads w.reference s.monitors stands.sound.monitors) in
      (held.0, held.1.1, held.1.2, subst IsAtInvoke (sym (frames_after w)) begun.at_invoke, begun.quiet.0, begun.quiet.1)

  thread_waits : (w : Wait) → IsBegun w → IsThread program limits s.heap (put_to_wait w thread)
  thread_waits w begun =
      let frames = frames_are_stack stands in
      let was = thread_is stands in (
        subst (AllByRecursion (IsFrame program s.heap)) (sym (frames_after w)) (given_is_frame program s.heap 1 frame frames.0.0, frames.0.1),
        subst (IsStack program) (sym (frames_after w)) (stack_goes_on program frame (without_arguments 1 frame).activation below frames.1),
        subst (λ (fs : List Frame). length fs ≤ limits.frames) (sym (frames_after w)) frames.2,
        was.3,
        was.4,
        wait_is w begun,
      )

  waits_is_sound : (w : Wait) → IsBegun w → Sound program limits (with_changed (with_waiter s t w.reference) t (put_to_wait w))
  waits_is_sound w begun =
      let sound = stands.sound in
      let after = put_to_wait w thread in
      let threads = slice_set s.threads t after in
      let freed = removed_are s.heap s.threads w.reference s.monitors sound.monitors in
      let as_many = length-set s.threads t after in
      let others = awake_is_other s.threads t thread stands.given_out stands.awake s.waiters sound.waiters in
      let waits : waits_for w.reference (slice_get threads t) ≡ true = ap (waits_for w.reference) (get_set_same s.threads t thread after stands.given_out) ∙ eq-eqb w.reference w.reference refl in
      subst (λ o. Sound program limits (record (with_waiter s t w.reference) { threads = changed_to s.threads t (put_to_wait w) o })) (sym stands.given_out)
      (record {
        opened = sound.opened;
        objects_are = sound.objects_are;
        monitors = monitors_held s.heap s.threads threads (omega arith) (freed_monitor w.reference s.monitors) (freed_awake s.heap s.threads t after w s.monitors refl sound.monitors freed) freed;
        waiters = one_more_waits threads w.reference t s.waiters waits others (others_wait s.threads t after s.waiters others sound.waiters);
        out_of_memory = sound.out_of_memory;
        stack_overflow = sound.stack_overflow;
        statics = sound.statics;
        static_values = sound.static_values;
        classes = sound.classes;
        threads = all_set (IsThread program limits s.heap) s.threads t after (thread_waits w begun) sound.threads;
        first_thread = first_thread_set s.threads t thread after stands.given_out refl sound.first_thread;
        own_objects = own_objects_set s.threads t thread after stands.given_out refl sound.own_objects;
        initialised = order_with_thread s.threads s.initialisations t thread after stands.given_out sound.initialised
            (λ c. ap (count_by (is_initialisation_of c)) (frames_after w) ∙ count_call c (without_arguments 1 frame) below ∙ sym (count_call c frame below) ∙ sym (ap (count_by (is_initialisation_of c)) stands.frames_are));
        result = sound.result;
        objects = sound.objects;
        elements = sound.elements;
        thread_count = subst (λ n. n ≤ limits.threads) (sym as_many) sound.thread_count;
      })

  waits_keeps : (w : Wait) → IsBegun w → KeepsSound (decision.Applies (action.Waits w))
  unfolding applied_to items_of
  waits_keeps w begun = (
    (λ _. waits_is_sound w begun),
    (λ _ _. (slice_get_within s.threads t thread stands.given_out, subst (λ o. IfSome o (λ (th : Thread). 1 ≤ length (top_operands th.frames))) (sym stands.given_out) (subst (λ (fs : List Frame). 1 ≤ length (top_operands fs)) (sym stands.frames_are) begun.there))),
    unmarked_by program t (calls_of s t) _ (changed_calls s.threads t thread (put_to_wait w) stands.given_out ∙ given_calls 1 thread.frames ∙ sym (ap calls_in stands.given_out)),
    (λ _. (record { owner = t; count = w.count }, begun.held)),
  )

  -- ---- The native methods

  notifies_keeps : (r : ℕ) (all : Bool) → 1 ≤ length frame.activation.operands → KeepsSound (decision.Applies (action.Reaches (effect.Notifies r all) (next_action 1 frame.activation)))
  notifies_keeps r all there =
      reaches_keeps program limits start s t thread frame below stands (effect.Notifies r all) (next_action 1 frame.activation)
      (λ _. record { sound = notified_is_sound stands.sound r all; room = there; value = tt; heard = tt; can_be_made = λ _. tt })

  owned_keeps : IsAtInvoke (stack_frame.Call frame ∷ below) → IsQuiet thread → (m : Method) (r : ℕ) (o : Option Hold) → monitor_at s.monitors r ≡ o → 1 ≤ length frame.activation.operands → KeepsSound (owner_decision limits s t thread o (waits_or_notifies frame.activation m r))
  owned_keeps at_invoke quiet m r None e there = throws_keeps start stands thrown.IllegalMonitorStateException
  owned_keeps at_invoke quiet m r (Some h) e there =
      cond_both (h.owner == t) _ _ KeepsSound
      (λ own.
      let held : monitor_at s.monitors r ≡ Some (record { owner = t; count = h.count }) = e ∙ ap (λ u. Some (record { owner = u; count = h.count })) (eqb-true h.owner t own) in
      cond_both (same_text m.name (codes "wait")) _ _ KeepsSound
      (λ _. waits_keeps (record { reference = r; count = h.count }) (record { at_invoke = at_invoke; quiet = quiet; held = held; there = there }))
      (λ _. notifies_keeps r (same_text m.name (codes "notifyAll")) there))
      (λ _. throws_keeps start stands thrown.IllegalMonitorStateException)

  pub object_native_keeps : IsQuiet thread → (m : Method) (operands : List Value) → IsAtInvoke (stack_frame.Call frame ∷ below) → (1 ≤ length operands → 1 ≤ length frame.activation.operands) → KeepsSound (object_native_decision limits s t thread frame.activation m operands)
  object_native_keeps quiet m (value.Reference r ∷ others) at_invoke there = owned_keeps at_invoke quiet m r (monitor_at s.monitors r) refl (there (omega arith))
  object_native_keeps quiet m _ at_invoke there = still t stands.sound
