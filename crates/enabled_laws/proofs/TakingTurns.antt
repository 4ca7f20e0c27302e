-- Turns that give nothing: they enter monitors, begin initialisations and start threads.
use Rattle.enabled_laws.proofs.BesideThread.{beside_heap, constants_beside, lock_beside}
use Rattle.enabled_laws.proofs.Heaps.{extends_itself}
use Rattle.enabled_laws.proofs.Holds.{hold_at, inner_entered}
use Rattle.enabled_laws.proofs.Kept.{may_enter}
use Rattle.enabled_laws.proofs.QuietActions.{lock_initialises_none}
use Rattle.enabled_laws.proofs.Related.{AsBefore, Asked, IsRelation, WaitsNow}
use Rattle.enabled_laws.proofs.Turned.{Turned, beside_turned, changed_others, changed_threads, threads_started}
use Rattle.enabled_laws.specs.Quiet.{is_quiet, is_quiet_effect, is_taking, is_taking_effect}
use Rattle.jvms_machine.proofs.ListLaws.{appended_within}
use Rattle.jvms_machine.specs.Actions.{after_effect, applied_to, with_initialisation_frame, thread_after_action, operands_of, after_wait, with_changed, with_class_constants, with_initialisation, with_lock, with_retaken}
use Rattle.jvms_machine.specs.Decisions.{TurnAction}
use Rattle.jvms_machine.specs.Monitors.{entered_monitor}
use Rattle.jvms_machine.specs.Start.{Start}
use Rattle.jvms_machine.specs.State.{State, Thread, monitor_at, new_thread}
use Rattle.jvms_machine.specs.Waiting.{retaken_monitor}
use Rattle.jvms_machine.specs.declared.action.Effect.{Effect}
use Rattle.jvms_machine.specs.declared.action.FrameAction.{FrameAction}
use Rattle.jvms_machine.specs.declared.action.Lock.{Lock}
use Rattle.jvms_machine.specs.declared.state.Hold.{Hold}
use Rattle.jvms_machine.specs.declared.state.Initialisation.{Initialisation}
use Rattle.jvms_machine.specs.declared.state.Wait.{Wait}
use Rattle.jvms_machine.specs.declared.value.Value.{Value}
use Rattle.jvms_program.specs.declared.program.Class.{Class}
use Rattle.std.proofs.Common.{Bool, List, None, Option, Some, [], ap, cond, eqb-true, false, ne_eqb, refl, slice_get, slice_set, subst, suc, sym, true, zero, ℕ, ◌++◌, ◌==◌, ◌∙◌, ◌∷◌, ◌≡◌}
use Rattle.std.proofs.lemmas.Bool.{cond_both, false≢true, true≢false}
use Rattle.jvms_machine.specs.declared.action.Action.TheVariants as action
use Rattle.jvms_machine.specs.declared.action.Effect.TheVariants as effect
use Rattle.jvms_machine.specs.declared.state.Initialisation.TheVariants as initialisation
use Rattle.jvms_machine.specs.declared.action.Lock.TheVariants as lock

-- ---- Entered monitors

-- What is true after the turn was true before it.
abbrev pub Backward : Bool → Bool → Type 0
Backward a b = b ≡ true → a ≡ true

pub backward : IsRelation Backward
backward = record { same = λ a b e on. sym e ∙ on }

entered_backward : (t q : ℕ) (o : Option Hold) (monitors : List (ℕ × Hold)) → monitor_at monitors q ≡ o → (v r : ℕ) → Backward (may_enter v (monitor_at monitors r)) (may_enter v (monitor_at (entered_monitor t q monitors) r))
entered_backward t q (Some h) monitors at v r on = sym (inner_entered t q (Some h) monitors at refl v r) ∙ on
entered_backward t q None monitors at v r on =
    cond_both (q == r) (Some (record { owner = t; count = 1 })) (monitor_at monitors r) (λ (o : Option Hold). may_enter v o ≡ true → may_enter v (monitor_at monitors r) ≡ true)
    (λ same _. ap (may_enter v) (ap (monitor_at monitors) (sym (eqb-true q r same)) ∙ at))
    (λ _ is. is)
    (sym (ap (may_enter v) (taken_at r)) ∙ on)
  where
    taken_at : (k : ℕ) → monitor_at (entered_monitor t q monitors) k ≡ cond (q == k) (Some (record { owner = t; count = 1 })) (monitor_at monitors k)
    taken_at k = rw at (hold_at q (record { owner = t; count = 1 }) monitors k)

-- No other thread may enter a monitor that a thread takes again.
retaken_backward : (t : ℕ) (w : Wait) (monitors : List (ℕ × Hold)) (v r : ℕ) → (v ≡ t → ⊥) → Backward (may_enter v (monitor_at monitors r)) (may_enter v (monitor_at (retaken_monitor t w monitors) r))
retaken_backward t w monitors v r other on =
    cond_both (w.reference == r) (Some (record { owner = t; count = w.count })) (monitor_at monitors r) (λ (o : Option Hold). may_enter v o ≡ true → may_enter v (monitor_at monitors r) ≡ true)
    (λ _ own. absurd (other (sym (eqb-true t v own))))
    (λ _ is. is)
    (sym (ap (may_enter v) (hold_at w.reference (record { owner = t; count = w.count }) monitors r)) ∙ on)

-- ---- Turns that take

lock_backward : (program : List Class) (s : State) (t : ℕ) (locked : Lock) (v r : ℕ) → Backward (may_enter v (monitor_at s.monitors r)) (may_enter v (monitor_at (with_lock program s t locked).monitors r))
lock_backward program s t lock.Nothing v r on = on
lock_backward program s t (lock.Monitor monitor) v r on = entered_backward t monitor.reference (monitor_at s.monitors monitor.reference) s.monitors refl v r on
lock_backward program s t (lock.NewClass class q) v r on = entered_backward t q (monitor_at s.monitors q) s.monitors refl v r on

-- The other threads wait for a class whose initialisation begins.
begun_asked : (is : List Initialisation) (class k t v : ℕ) → (t == v) ≡ false → Asked Backward v (slice_get is k) (slice_get (slice_set is class (initialisation.InProgress t)) k)
begun_asked [] class k t v other = AsBefore None
begun_asked (x ∷ is) zero zero t v other = WaitsNow (Some x) t other (λ a on. absurd (false≢true on))
begun_asked (x ∷ is) zero (suc k) t v other = AsBefore (slice_get is k)
begun_asked (x ∷ is) (suc class) zero t v other = AsBefore (Some x)
begun_asked (x ∷ is) (suc class) (suc k) t v other = begun_asked is class k t v other

constants_keep : (s : State) (o : Option Class) → ((with_class_constants s o).initialisations ≡ s.initialisations) × ((with_class_constants s o).monitors ≡ s.monitors)
constants_keep s None = (refl, refl)
constants_keep s (Some c) = (refl, refl)

module _ (program : List Class) (start : Start) (s : State) (t : ℕ) (own : Thread) (at : slice_get s.threads t ≡ Some own) where
  abbrev Takes : State → Type 0
  Takes after = Turned Backward backward t s after

  effect_takes : (what : Effect (List ℕ)) (act : FrameAction) (others : List Value) → is_taking_effect what ≡ true → is_quiet_effect what ≡ false → Takes (with_changed (after_effect program s t others what) t (thread_after_action act))
  effect_takes (effect.Locks monitor) act others takes loud =
      beside_turned Backward backward s _ t (thread_after_action act) own at (beside_heap s _ refl refl) refl (λ on. on) (λ v r _. entered_backward t monitor.reference (monitor_at s.monitors monitor.reference) s.monitors refl v r) refl
  effect_takes (effect.Starts q w) act others takes loud =
      let made : State = record s { threads = s.threads ++ new_thread (Some q) ∷ [] } in
      record {
        heap = extends_itself s.heap;
        threads = changed_threads Backward backward s made t (thread_after_action act) own at (appended_within s.threads (new_thread (Some q) ∷ []) t own at) (threads_started Backward backward (λ b _. refl) s.threads q) refl (λ on. on);
        others = λ u thread other there. changed_others Backward backward made t (thread_after_action act) u thread other (appended_within s.threads (new_thread (Some q) ∷ []) u thread there);
        enters = λ v r _ on. on;
        asked = λ v class _. AsBefore (slice_get s.initialisations class);
      }
  effect_takes (effect.Unlocks monitor) act others takes loud = absurd (true≢false (sym takes ∙ loud))
  effect_takes effect.Nothing act others takes loud = absurd (true≢false loud)
  effect_takes (effect.GetField r n) act others takes loud = absurd (true≢false loud)
  effect_takes (effect.PutField r n v) act others takes loud = absurd (true≢false loud)
  effect_takes (effect.GetStatic n) act others takes loud = absurd (true≢false loud)
  effect_takes (effect.PutStatic n v) act others takes loud = absurd (true≢false loud)
  effect_takes (effect.LoadElement r i) act others takes loud = absurd (true≢false loud)
  effect_takes (effect.StoreElement r i v) act others takes loud = absurd (true≢false loud)
  effect_takes (effect.Creates what) act others takes loud = absurd (true≢false loud)
  effect_takes (effect.Prints what ends_line) act others takes loud = absurd (true≢false loud)
  effect_takes (effect.Joins u) act others takes loud = absurd (true≢false loud)
  effect_takes (effect.Notifies r all) act others takes loud = absurd (true≢false loud)

  begins_takes : (class : ℕ) → Takes (with_initialisation (with_changed (with_class_constants s (slice_get program class)) t (with_initialisation_frame class)) class (initialisation.InProgress t))
  begins_takes class =
      let o = slice_get program class in
      let keeps = constants_keep s o in
      let turned = beside_turned Backward backward s (with_class_constants s o) t (with_initialisation_frame class) own at (constants_beside s o) refl (λ on. on) (λ v r _. subst (λ (ms : List (ℕ × Hold)). Backward (may_enter v (monitor_at s.monitors r)) (may_enter v (monitor_at ms r))) (sym keeps.1) (λ on. on)) keeps.0 in
      record {
        heap = turned.heap;
        threads = turned.threads;
        others = turned.others;
        enters = turned.enters;
        asked = λ v k other. subst (λ (is : List Initialisation). Asked Backward v (slice_get s.initialisations k) (slice_get (slice_set is class (initialisation.InProgress t)) k)) (sym keeps.0)
            (begun_asked s.initialisations class k t v (ne_eqb t v (λ e. other (sym e))));
      }

  pub action_takes : (act : TurnAction) → is_taking act ≡ true → is_quiet act ≡ false → Takes (applied_to program start s t act)
  unfolding applied_to
  action_takes (action.Goes act) takes loud = absurd (true≢false loud)
  action_takes (action.Reaches what act) takes loud = effect_takes what act (operands_of (slice_get s.threads t)) takes loud
  action_takes (action.Begins class) takes loud = begins_takes class
  action_takes (action.Finishes class) takes loud = absurd (false≢true takes)
  action_takes (action.Enters method body locked) takes loud =
      beside_turned Backward backward s (with_lock program s t locked) t _ own at (lock_beside program s t locked) refl (λ on. on) (λ v r _. lock_backward program s t locked v r) (lock_initialises_none program start s t locked)
  action_takes (action.Ends method result unlock) takes loud = absurd (false≢true takes)
  action_takes (action.Calls method body count locked) takes loud =
      beside_turned Backward backward s (with_lock program s t locked) t _ own at (lock_beside program s t locked) refl (λ on. on) (λ v r _. lock_backward program s t locked v r) (lock_initialises_none program start s t locked)
  action_takes (action.Returns method result unlock) takes loud = absurd (true≢false (sym takes ∙ loud))
  action_takes (action.Initialises method body) takes loud = absurd (true≢false loud)
  action_takes (action.Throws r) takes loud = absurd (true≢false loud)
  action_takes (action.Catches r target) takes loud = absurd (true≢false loud)
  action_takes (action.Unwinds method last unlock) takes loud = absurd (true≢false (sym takes ∙ loud))
  action_takes (action.FailsToUnlock method e last) takes loud = absurd (true≢false (sym takes ∙ loud))
  action_takes (action.FailsInitialisation class e last) takes loud = absurd (false≢true takes)
  action_takes (action.Waits w) takes loud = absurd (false≢true takes)
  action_takes (action.Retakes w) takes loud =
      beside_turned Backward backward s (with_retaken s t w) t after_wait own at (beside_heap s _ refl refl) refl (λ on. on) (λ v r other. retaken_backward t w s.monitors v r other) refl
  action_takes (action.Raises e) takes loud = absurd (true≢false loud)
  action_takes (action.Fails e) takes loud = absurd (false≢true takes)
