-- The turn of a waiting thread keeps a sound state sound.
use Rattle.std.proofs.Common.{◌≡◌, ℕ, ◌≤◌, false, List, [], ◌∷◌, Option, Some, None, IfSome, slice_get, slice_set, refl, sym, ap, ◌∙◌, subst, arith, length-set}
use Rattle.std.specs.List.{AllByRecursion}
use Rattle.std.proofs.lemmas.Bool.{cond_both}
use Rattle.std.proofs.lemmas.Option.{slice_get_within}
use Rattle.jvms_machine.specs.declared.machine.Limits.{Limits}
use Rattle.jvms_machine.specs.declared.state.Hold.{Hold}
use Rattle.jvms_machine.specs.declared.state.Wait.{Wait}
use Rattle.jvms_machine.specs.declared.action.Action.TheVariants as action
use Rattle.jvms_machine.specs.declared.action.Decision.TheVariants as decision
use Rattle.jvms_program.specs.declared.program.Class.{Class}
use Rattle.jvms_machine.specs.Decisions.{TurnDecision}
use Rattle.jvms_machine.specs.State.{State, Object, Thread, Frame, monitor_at, waits_for, IsAtInvoke, IsFrame, IsThread, IsWait, Sound}
use Rattle.jvms_machine.specs.Start.{Start}
use Rattle.jvms_machine.specs.Actions.{stack_after_return, changed_to, after_wait, with_changed, with_retaken, applied_to, items_of}
use Rattle.jvms_machine.specs.Marks.{calls_in, calls_of}
use Rattle.jvms_machine.specs.Waiting.{is_waiter, retake_decision, waiting_decision}
use Rattle.jvms_machine.proofs.ListLaws.{all_at, all_set, get_set_same}
use Rattle.jvms_machine.proofs.InitialisationOrder.{order_with_thread}
use Rattle.jvms_machine.proofs.MarkLaws.{unmarked_by, changed_calls, returned_calls}
use Rattle.jvms_machine.proofs.MonitorLaws.{with_hold_are}
use Rattle.jvms_machine.proofs.ThreadChanges.{first_thread_set, monitors_held, own_objects_set, owners_awake}
use Rattle.jvms_machine.proofs.WaiterLaws.{notified_is_other, others_wait, woken_waits}
use Rattle.jvms_machine.proofs.KeptStates.{Keeps, still}
use Rattle.jvms_machine.proofs.ReturnSoundness.{returned_count, returned_frames, returned_length, returned_stack}

-- The frames of a completed call are frames.
gone_on_frames : (program : List Class) (heap : List Object) (frames : List Frame) → IsAtInvoke frames → AllByRecursion (IsFrame program heap) frames → AllByRecursion (IsFrame program heap) (stack_after_return None frames)
gone_on_frames program heap [] at_invoke all = absurd at_invoke
gone_on_frames program heap (f ∷ below) at_invoke all = returned_frames program heap None f below tt tt all

module _ (program : List Class) (limits : Limits) (start : Start) (s : State) (t : ℕ) (thread : Thread) (w : Wait) (sound : Sound program limits s) (given_out : slice_get s.threads t ≡ Some thread) (waits : thread.waits ≡ Some w) where
  abbrev KeepsSound : TurnDecision → Type 0
  KeepsSound d = Keeps program limits start s t d

  thread_is_one : IsThread program limits s.heap thread
  thread_is_one = all_at (IsThread program limits s.heap) s.threads t thread given_out sound.threads

  wait_is : IsWait s.heap thread w
  wait_is = subst (λ o. IfSome o (IsWait s.heap thread)) waits thread_is_one.5

  thread_goes_on : IsThread program limits s.heap (after_wait thread)
  thread_goes_on =
      let is = thread_is_one in (
        gone_on_frames program s.heap thread.frames wait_is.3 is.0,
        returned_stack program None thread.frames is.1,
        subst (λ n. n ≤ limits.frames) (sym (returned_length None thread.frames)) is.2,
        is.3,
        is.4,
        tt,
      )

  retaken_is_sound : is_waiter t s.waiters ≡ false → Sound program limits (with_changed (with_retaken s t w) t after_wait)
  retaken_is_sound notified =
      let after = after_wait thread in
      let threads = slice_set s.threads t after in
      let as_many = length-set s.threads t after in
      let there = slice_get_within s.threads t thread given_out in
      let stays = woken_waits s.threads t after refl in
      let are = monitors_held s.heap s.threads threads (omega arith) s.monitors (owners_awake s.heap s.threads threads stays s.monitors sound.monitors) sound.monitors in
      let awake : waits_for w.reference (slice_get threads t) ≡ false = ap (waits_for w.reference) (get_set_same s.threads t thread after given_out) in
      let others = notified_is_other t s.waiters notified in
      subst (λ o. Sound program limits (record (with_retaken s t w) { threads = changed_to s.threads t after_wait o })) (sym given_out)
      (record {
        opened = sound.opened;
        objects_are = sound.objects_are;
        monitors = with_hold_are s.heap threads w.reference (record { owner = t; count = w.count }) s.monitors wait_is.0 (omega arith, wait_is.1, wait_is.2, awake) are;
        waiters = others_wait s.threads t after s.waiters others sound.waiters;
        out_of_memory = sound.out_of_memory;
        stack_overflow = sound.stack_overflow;
        statics = sound.statics;
        static_values = sound.static_values;
        classes = sound.classes;
        threads = all_set (IsThread program limits s.heap) s.threads t after thread_goes_on sound.threads;
        first_thread = first_thread_set s.threads t thread after given_out refl sound.first_thread;
        own_objects = own_objects_set s.threads t thread after given_out refl sound.own_objects;
        initialised = order_with_thread s.threads s.initialisations t thread after given_out sound.initialised (λ c. returned_count None c thread.frames);
        result = sound.result;
        objects = sound.objects;
        elements = sound.elements;
        thread_count = subst (λ n. n ≤ limits.threads) (sym as_many) sound.thread_count;
      })

  retakes_keeps : is_waiter t s.waiters ≡ false → monitor_at s.monitors w.reference ≡ None → KeepsSound (decision.Applies (action.Retakes w))
  unfolding applied_to items_of
  retakes_keeps notified free = (
    (λ _. retaken_is_sound notified),
    (λ _ _. slice_get_within s.threads t thread given_out),
    unmarked_by program t (calls_of s t) _ (changed_calls s.threads t thread after_wait given_out ∙ returned_calls None thread.frames ∙ sym (ap calls_in given_out)),
    (λ _. free),
  )

  retake_keeps : (o : Option Hold) → is_waiter t s.waiters ≡ false → monitor_at s.monitors w.reference ≡ o → KeepsSound (retake_decision w o)
  retake_keeps None notified free = retakes_keeps notified free
  retake_keeps (Some h) notified held = still t sound

  pub waiting_keeps : KeepsSound (waiting_decision s t w)
  unfolding waiting_decision
  waiting_keeps =
      cond_both (is_waiter t s.waiters) _ _ KeepsSound
      (λ _. still t sound)
      (λ notified. retake_keeps (monitor_at s.monitors w.reference) notified refl)
