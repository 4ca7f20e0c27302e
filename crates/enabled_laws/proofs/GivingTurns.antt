-- Turns that take nothing: they free monitors, and end threads.
use Rattle.enabled_laws.proofs.BesideThread.{beside_heap, exception_beside, unlock_beside}
use Rattle.enabled_laws.proofs.Holds.{owner_kept}
use Rattle.enabled_laws.proofs.Kept.{may_enter}
use Rattle.enabled_laws.proofs.QuietActions.{exception_initialises_none, exception_keeps, unlock_initialises_none}
use Rattle.enabled_laws.proofs.Related.{IsRelation}
use Rattle.enabled_laws.proofs.Turned.{Turned, beside_turned}
use Rattle.enabled_laws.specs.Quiet.{is_giving, is_giving_effect, is_quiet, is_quiet_effect}
use Rattle.jvms_machine.specs.Actions.{after_effect, applied_to, after_failure, thread_after_action, operands_of, put_to_wait, with_pending, after_return, unwound, with_changed, with_exception, with_result, with_unlock, with_waiter}
use Rattle.jvms_machine.specs.Decisions.{TurnAction}
use Rattle.jvms_machine.specs.Exceptions.{exception_reference}
use Rattle.jvms_machine.specs.Monitors.{left_monitor}
use Rattle.jvms_machine.specs.Start.{Start}
use Rattle.jvms_machine.specs.State.{AreMonitors, Object, Sound, State, Thread, monitor_at}
use Rattle.jvms_machine.specs.declared.action.Effect.{Effect}
use Rattle.jvms_machine.specs.declared.action.Exception.{Exception}
use Rattle.jvms_machine.specs.declared.action.FrameAction.{FrameAction}
use Rattle.jvms_machine.specs.declared.action.MonitorUse.{MonitorUse}
use Rattle.jvms_machine.specs.declared.machine.Limits.{Limits}
use Rattle.jvms_machine.specs.declared.state.Hold.{Hold}
use Rattle.jvms_machine.specs.declared.value.Value.{Value}
use Rattle.jvms_program.specs.declared.program.Class.{Class}
use Rattle.std.proofs.Common.{Bool, List, None, Option, Some, [], ap, arith, cond, eqb-true, false, refl, slice_get, sym, true, ℕ, ◌-◌, ◌<◌, ◌==◌, ◌∙◌, ◌∷◌, ◌≡◌}
use Rattle.std.proofs.lemmas.Bool.{cond_both, false≢true, true≢false}
use Rattle.std.specs.List.{AllByRecursion}
use Rattle.std.specs.Map.{remove_entry}
use Rattle.jvms_machine.specs.declared.action.Action.TheVariants as action
use Rattle.jvms_machine.specs.declared.action.Effect.TheVariants as effect

-- ---- Freed monitors

-- What was true before the turn is true after it.
abbrev pub Forward : Bool → Bool → Type 0
Forward a b = a ≡ true → b ≡ true

pub forward : IsRelation Forward
forward = record { same = λ a b e on. e ∙ on }

first_is_free : (q : ℕ) (monitors : List (ℕ × Hold)) → AllByRecursion (λ (n : ℕ × Hold). q < n.0) monitors → monitor_at monitors q ≡ None
first_is_free q [] behind = refl
first_is_free q (m ∷ monitors) behind =
    cond_both (m.0 == q) _ _ (λ (o : Option Hold). o ≡ None)
    (λ same. let is = eqb-true m.0 q same in let more = behind.0 in absurd (omega arith))
    (λ _. first_is_free q monitors behind.1)

removed_forward : (heap : List Object) (threads : List Thread) (q : ℕ) (monitors : List (ℕ × Hold)) → AreMonitors heap threads monitors → (v r : ℕ) → Forward (may_enter v (monitor_at monitors r)) (may_enter v (monitor_at (remove_entry (λ k. k == q) monitors) r))
removed_forward heap threads q [] are v r = λ on. on
removed_forward heap threads q (m ∷ monitors) are v r =
    cond_both (m.0 == q) _ _ (λ (ms : List (ℕ × Hold)). may_enter v (monitor_at (m ∷ monitors) r) ≡ true → may_enter v (monitor_at ms r) ≡ true)
    (λ _. cond_both (m.0 == r) (Some m.1) (monitor_at monitors r) (λ (o : Option Hold). may_enter v o ≡ true → may_enter v (monitor_at monitors r) ≡ true)
    (λ same _. ap (may_enter v) (ap (monitor_at monitors) (sym (eqb-true m.0 r same)) ∙ first_is_free m.0 monitors are.2))
    (λ _ on. on))
    (λ _. removed_behind (m.0 == r) (removed_forward heap threads q monitors are.3 v r))
  where
    removed_behind : (b : Bool) → Forward (may_enter v (monitor_at monitors r)) (may_enter v (monitor_at (remove_entry (λ k. k == q) monitors) r)) → may_enter v (cond b (Some m.1) (monitor_at monitors r)) ≡ true → may_enter v (cond b (Some m.1) (monitor_at (remove_entry (λ k. k == q) monitors) r)) ≡ true
    removed_behind true more on = on
    removed_behind false more on = more on

left_forward : (heap : List Object) (threads : List Thread) (q : ℕ) (o : Option Hold) (monitors : List (ℕ × Hold)) → AreMonitors heap threads monitors → monitor_at monitors q ≡ o → (v r : ℕ) → Forward (may_enter v (monitor_at monitors r)) (may_enter v (monitor_at (left_monitor q monitors) r))
left_forward heap threads q None monitors are at v r = rw at (λ on. on)
left_forward heap threads q (Some h) monitors are at v r =
    rw at (cond_both (h.count == 1) _ _ (λ (ms : List (ℕ × Hold)). may_enter v (monitor_at monitors r) ≡ true → may_enter v (monitor_at ms r) ≡ true)
    (λ _. removed_forward heap threads q monitors are v r)
    (λ _ on. owner_kept q (record { owner = h.owner; count = h.count - 1 }) h monitors at refl v r ∙ on))

-- ---- Turns that give

module _ (program : List Class) (limits : Limits) (start : Start) (s : State) (t : ℕ) (own : Thread) (at : slice_get s.threads t ≡ Some own) (live : own.ended ≡ false) (sound : Sound program limits s) where
  abbrev Gives : State → Type 0
  Gives after = Turned Forward forward t s after

  -- The thread hasn't ended, and may end.
  may_end : (ends : Bool) → Forward own.ended ends
  may_end ends on = absurd (false≢true (sym live ∙ on))

  unlock_forward : (unlock : Option MonitorUse) (v r : ℕ) → Forward (may_enter v (monitor_at s.monitors r)) (may_enter v (monitor_at (with_unlock s unlock).monitors r))
  unlock_forward None v r on = on
  unlock_forward (Some monitor) v r on = left_forward s.heap s.threads monitor.reference (monitor_at s.monitors monitor.reference) s.monitors sound.monitors refl v r on

  unlock_gives : (unlock : Option MonitorUse) (change : Thread → Thread) → (change own).object ≡ own.object → Gives (with_changed (with_unlock s unlock) t change)
  unlock_gives unlock change object =
      beside_turned Forward forward s (with_unlock s unlock) t change own at (unlock_beside s unlock) object (may_end (change own).ended) (λ v r _. unlock_forward unlock v r) (unlock_initialises_none program start s t unlock)

  exception_gives : (e : Exception) (change : Thread → Thread) → (change own).object ≡ own.object → Gives (with_changed (with_exception program s e) t change)
  exception_gives e change object =
      beside_turned Forward forward s (with_exception program s e) t change own at (exception_beside program s e) object (may_end (change own).ended) (λ v r _ on. exception_keeps program limits start s t sound e v r ∙ on) (exception_initialises_none program start s t e)

  result_gives : (made : State) (result : Option Value) → Gives made → Gives (with_result made t result)
  result_gives made result gives =
      cond_both (t == 0) (record made { result = result }) made (λ (r : State). Gives r)
      (λ _. record { heap = gives.heap; threads = gives.threads; others = gives.others; enters = gives.enters; asked = gives.asked })
      (λ _. gives)

  effect_gives : (what : Effect (List ℕ)) (act : FrameAction) (others : List Value) → is_giving_effect what ≡ true → is_quiet_effect what ≡ false → Gives (with_changed (after_effect program s t others what) t (thread_after_action act))
  effect_gives (effect.Unlocks monitor) act others gives loud = unlock_gives (Some monitor) (thread_after_action act) refl
  effect_gives (effect.Locks monitor) act others gives loud = absurd (true≢false (sym gives ∙ loud))
  effect_gives (effect.Starts q w) act others gives loud = absurd (false≢true gives)
  effect_gives effect.Nothing act others gives loud = absurd (true≢false loud)
  effect_gives (effect.GetField r n) act others gives loud = absurd (true≢false loud)
  effect_gives (effect.PutField r n v) act others gives loud = absurd (true≢false loud)
  effect_gives (effect.GetStatic n) act others gives loud = absurd (true≢false loud)
  effect_gives (effect.PutStatic n v) act others gives loud = absurd (true≢false loud)
  effect_gives (effect.LoadElement r i) act others gives loud = absurd (true≢false loud)
  effect_gives (effect.StoreElement r i v) act others gives loud = absurd (true≢false loud)
  effect_gives (effect.Creates what) act others gives loud = absurd (true≢false loud)
  effect_gives (effect.Prints what ends_line) act others gives loud = absurd (true≢false loud)
  effect_gives (effect.Joins u) act others gives loud = absurd (true≢false loud)
  effect_gives (effect.Notifies r all) act others gives loud = absurd (true≢false loud)

  pub action_gives : (act : TurnAction) → is_giving act ≡ true → is_quiet act ≡ false → Gives (applied_to program start s t act)
  unfolding applied_to
  action_gives (action.Goes act) gives loud = absurd (true≢false loud)
  action_gives (action.Reaches what act) gives loud = effect_gives what act (operands_of (slice_get s.threads t)) gives loud
  action_gives (action.Begins class) gives loud = absurd (false≢true gives)
  action_gives (action.Finishes class) gives loud = absurd (false≢true gives)
  action_gives (action.Enters method body locked) gives loud = absurd (true≢false (sym gives ∙ loud))
  action_gives (action.Ends method result unlock) gives loud = result_gives _ result (unlock_gives unlock _ refl)
  action_gives (action.Calls method body count locked) gives loud = absurd (true≢false (sym gives ∙ loud))
  action_gives (action.Returns method result unlock) gives loud = unlock_gives unlock (after_return result) refl
  action_gives (action.Initialises method body) gives loud = absurd (true≢false loud)
  action_gives (action.Throws r) gives loud = absurd (true≢false loud)
  action_gives (action.Catches r target) gives loud = absurd (true≢false loud)
  action_gives (action.Unwinds method last unlock) gives loud = unlock_gives unlock (unwound last) refl
  action_gives (action.FailsToUnlock method e last) gives loud = exception_gives e (λ thread. unwound last (with_pending (exception_reference s e) thread)) refl
  action_gives (action.FailsInitialisation class e last) gives loud = absurd (false≢true gives)
  action_gives (action.Waits w) gives loud =
      beside_turned Forward forward s (with_waiter s t w.reference) t (put_to_wait w) own at (beside_heap s _ refl refl) refl (λ on. on)
      (λ v r _. removed_forward s.heap s.threads w.reference s.monitors sound.monitors v r) refl
  action_gives (action.Retakes w) gives loud = absurd (false≢true gives)
  action_gives (action.Raises e) gives loud = absurd (true≢false loud)
  action_gives (action.Fails e) gives loud = exception_gives e (after_failure (exception_reference s e)) refl
