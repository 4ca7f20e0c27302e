-- An action keeps whether another thread awaits its notification, or the thread's monitor is held.
use Rattle.enabled_laws.proofs.Kept.{WaitStays}
use Rattle.enabled_laws.proofs.KnownEffects.{IsKnownAction, IsKnownEffect}
use Rattle.jvms_machine.specs.Actions.{after_effect, applied_to, after_end, thread_after_action, operands_of, put_field, put_static, with_changed, with_class_constants, with_exception, with_lock, with_result, with_unlock}
use Rattle.jvms_machine.specs.Decisions.{TurnAction}
use Rattle.jvms_machine.specs.Start.{Start}
use Rattle.jvms_machine.specs.State.{AreWaiters, State, Thread, is_wait_for, monitor_at, waits_for}
use Rattle.jvms_machine.specs.Waiting.{is_waiter, without_notified}
use Rattle.jvms_machine.specs.declared.action.Effect.{Effect}
use Rattle.jvms_machine.specs.declared.action.Exception.{Exception}
use Rattle.jvms_machine.specs.declared.action.Lock.{Lock}
use Rattle.jvms_machine.specs.declared.action.MonitorUse.{MonitorUse}
use Rattle.jvms_machine.specs.declared.state.Wait.{Wait}
use Rattle.jvms_machine.specs.declared.value.Value.{Value}
use Rattle.jvms_program.specs.Program.{field_key_at}
use Rattle.jvms_program.specs.declared.key.FieldKey.{FieldKey}
use Rattle.jvms_program.specs.declared.program.Class.{Class}
use Rattle.std.proofs.Common.{Bool, List, None, Option, Some, [], ap, eqb-true, false, inl, inr, is_none, ne_eqb, not, refl, slice_get, sym, true, ℕ, ⊎_elim, ◌++◌, ◌==◌, ◌||◌, ◌∙◌, ◌∷◌, ◌≡◌}
use Rattle.std.proofs.lemmas.Bool.{cases_Bool, cond_both, eqb-false, false≢true, not-false}
use Rattle.std.specs.List.{filter}
use Rattle.std.specs.Map.{remove_entry}
use Rattle.jvms_machine.specs.declared.action.Action.TheVariants as action
use Rattle.jvms_machine.specs.declared.action.Effect.TheVariants as effect
use Rattle.jvms_machine.specs.declared.action.Exception.TheVariants as exception
use Rattle.jvms_machine.specs.declared.action.Lock.TheVariants as lock

-- ---- Waiters

waits_for_one : (q r : ℕ) (o : Option Thread) → waits_for q o ≡ true → waits_for r o ≡ true → q ≡ r
waits_for_one q r None first second = absurd (false≢true first)
waits_for_one q r (Some thread) first second = wait_for_one thread.waits first second
  where
    wait_for_one : (o : Option Wait) → is_wait_for q o ≡ true → is_wait_for r o ≡ true → q ≡ r
    wait_for_one None one other = absurd (false≢true one)
    wait_for_one (Some w) one other = sym (eqb-true w.reference q one) ∙ eqb-true w.reference r other

module _ (threads : List Thread) (q v r : ℕ) (waits : waits_for r (slice_get threads v) ≡ true) (other : (q == r) ≡ false) where
  -- A thread that waits for object r isn't one of those that wait for object q.
  is_another : (w : ℕ × ℕ) → waits_for w.0 (slice_get threads w.1) ≡ true → (w.0 == q) ≡ true → (w.1 == v) ≡ false
  is_another w is of_q =
      ne_eqb w.1 v (λ same.
      let it : waits_for w.0 (slice_get threads v) ≡ true = sym (ap (λ k. waits_for w.0 (slice_get threads k)) same) ∙ is in
      eqb-false q r other (sym (eqb-true w.0 q of_q) ∙ waits_for_one w.0 r (slice_get threads v) it waits))

  kept_waiter : (waiters : List (ℕ × ℕ)) → AreWaiters threads waiters → is_waiter v (filter (λ w. not (w.0 == q)) waiters) ≡ is_waiter v waiters
  kept_waiter [] are = refl
  kept_waiter (w ∷ waiters) are =
      cond_both (not (w.0 == q)) _ _ (λ ws. is_waiter v ws ≡ is_waiter v (w ∷ waiters))
      (λ _. ap (λ b. (w.1 == v) || b) (kept_waiter waiters are.2))
      (λ of_q. kept_waiter waiters are.2 ∙ sym (ap (λ b. b || is_waiter v waiters) (is_another w are.0 (not-false (w.0 == q) of_q))))

  left_waiter : (waiters : List (ℕ × ℕ)) → AreWaiters threads waiters → is_waiter v (remove_entry (λ k. k == q) waiters) ≡ is_waiter v waiters
  left_waiter [] are = refl
  left_waiter (w ∷ waiters) are =
      cond_both (w.0 == q) _ _ (λ ws. is_waiter v ws ≡ is_waiter v (w ∷ waiters))
      (λ of_q. sym (ap (λ b. b || is_waiter v waiters) (is_another w are.0 of_q)))
      (λ _. ap (λ b. (w.1 == v) || b) (left_waiter waiters are.2))

  -- A notification for object q keeps the wait of a thread for another object.
  notified_waiter : (all : Bool) (waiters : List (ℕ × ℕ)) → AreWaiters threads waiters → is_waiter v (without_notified q all waiters) ≡ is_waiter v waiters
  notified_waiter true waiters are = kept_waiter waiters are
  notified_waiter false waiters are = left_waiter waiters are

-- Another thread that begins to wait keeps a thread's wait.
one_more_waiter : (r t v : ℕ) (waiters : List (ℕ × ℕ)) → (v ≡ t → ⊥) → is_waiter v (waiters ++ (r, t) ∷ []) ≡ is_waiter v waiters
one_more_waiter r t v [] other = ap (λ b. b || false) (ne_eqb t v (λ same. other (sym same)))
one_more_waiter r t v (w ∷ waiters) other = ap (λ b. (w.1 == v) || b) (one_more_waiter r t v waiters other)

module _ (program : List Class) (start : Start) (s : State) (t v r : ℕ) (other : v ≡ t → ⊥) (are : AreWaiters s.threads s.waiters) (waits : waits_for r (slice_get s.threads v) ≡ true) where
  put_field_waiters : (q : ℕ) (x : Value) (o : Option FieldKey) → (put_field s q x o).waiters ≡ s.waiters
  put_field_waiters q x None = refl
  put_field_waiters q x (Some key) = refl

  put_static_waiters : (x : Value) (o : Option FieldKey) → (put_static s x o).waiters ≡ s.waiters
  put_static_waiters x None = refl
  put_static_waiters x (Some key) = refl

  -- A notification is for this object, whose monitor is held, or for another.
  notified_stays : (q : ℕ) (all : Bool) (after : State) → after.waiters ≡ without_notified q all s.waiters → after.monitors ≡ s.monitors → is_none (monitor_at s.monitors q) ≡ false → WaitStays s after v r
  notified_stays q all after waiters_are monitors_are held =
      ⊎_elim
      (λ (same : (q == r) ≡ true). inr (ap (λ k. is_none (monitor_at s.monitors k)) (sym (eqb-true q r same)) ∙ held, monitors_are))
      (λ (apart : (q == r) ≡ false). inl (ap (is_waiter v) waiters_are ∙ notified_waiter s.threads q v r waits apart all s.waiters are))
      (cases_Bool (q == r))

  effect_waits : (operands : List Value) (what : Effect (List ℕ)) (change : Thread → Thread) → IsKnownEffect program s what → WaitStays s (with_changed (after_effect program s t operands what) t change) v r
  effect_waits operands (effect.PutField q n x) change known = inl (ap (is_waiter v) (put_field_waiters q x (field_key_at program n)))
  effect_waits operands (effect.PutStatic n x) change known = inl (ap (is_waiter v) (put_static_waiters x (field_key_at program n)))
  effect_waits operands (effect.Notifies q all) change known = notified_stays q all (with_changed (after_effect program s t operands (effect.Notifies q all)) t change) refl refl known
  effect_waits operands _ change known = inl refl

  constants_waiters : (o : Option Class) → (with_class_constants s o).waiters ≡ s.waiters
  constants_waiters None = refl
  constants_waiters (Some c) = refl

  lock_waiters : (locked : Lock) → (with_lock program s t locked).waiters ≡ s.waiters
  lock_waiters lock.Nothing = refl
  lock_waiters (lock.Monitor monitor) = refl
  lock_waiters (lock.NewClass class q) = refl

  unlock_waiters : (unlock : Option MonitorUse) → (with_unlock s unlock).waiters ≡ s.waiters
  unlock_waiters None = refl
  unlock_waiters (Some monitor) = refl

  exception_waiters : (e : Exception) → (with_exception program s e).waiters ≡ s.waiters
  exception_waiters (exception.New class) = refl
  exception_waiters (exception.Existing q) = refl

  result_waiters : (made : State) (result : Option Value) → (with_result made t result).waiters ≡ made.waiters
  result_waiters made result = cond_both (t == 0) _ _ (λ (after : State). after.waiters ≡ made.waiters) (λ _. refl) (λ _. refl)

  pub action_waits : (act : TurnAction) → IsKnownAction program s act → WaitStays s (applied_to program start s t act) v r
  unfolding applied_to
  action_waits (action.Reaches what act) known = effect_waits (operands_of (slice_get s.threads t)) what (thread_after_action act) known
  action_waits (action.Begins class) known = inl (ap (is_waiter v) (constants_waiters (slice_get program class)))
  action_waits (action.Enters method body locked) known = inl (ap (is_waiter v) (lock_waiters locked))
  action_waits (action.Ends method result unlock) known =
      inl (ap (is_waiter v) (result_waiters (with_changed (with_unlock s unlock) t after_end) result ∙ unlock_waiters unlock))
  action_waits (action.Calls method body takes locked) known = inl (ap (is_waiter v) (lock_waiters locked))
  action_waits (action.Returns method result unlock) known = inl (ap (is_waiter v) (unlock_waiters unlock))
  action_waits (action.Unwinds method last unlock) known = inl (ap (is_waiter v) (unlock_waiters unlock))
  action_waits (action.FailsToUnlock method e last) known = inl (ap (is_waiter v) (exception_waiters e))
  action_waits (action.FailsInitialisation class e last) known = inl (ap (is_waiter v) (exception_waiters e))
  action_waits (action.Waits w) known = inl (one_more_waiter w.reference t v s.waiters other)
  action_waits (action.Raises e) known = inl (ap (is_waiter v) (exception_waiters e))
  action_waits (action.Fails e) known = inl (ap (is_waiter v) (exception_waiters e))
  action_waits _ known = inl refl
