-- The state that a quiet action keeps: the owners of monitors and the initialisations of classes.
use Rattle.enabled_laws.proofs.BesideThread.{starts_none}
use Rattle.enabled_laws.proofs.Holds.{KeepsHolds, inner_entered, inner_left}
use Rattle.enabled_laws.proofs.Moves.{starts_no_thread}
use Rattle.enabled_laws.proofs.Statics.{begins_none}
use Rattle.enabled_laws.specs.Kept.{ends_thread}
use Rattle.enabled_laws.specs.Quiet.{is_inner, is_quiet, is_quiet_effect, is_quiet_lock, is_quiet_unlock}
use Rattle.jvms_machine.proofs.HeldMonitors.{left_old}
use Rattle.jvms_machine.specs.Actions.{after_effect, applied_to, effect_items, exit_items, thread_after_action, items_of, mark, operands_of, put_field, put_static, release_items, after_return, unlock_items, unwound, with_changed, with_exception, with_lock, with_unlock}
use Rattle.jvms_machine.specs.Decisions.{TurnAction, outcome_of_action}
use Rattle.jvms_machine.specs.Events.{is_release, newly_held, releases_between}
use Rattle.jvms_machine.specs.Monitors.{entered_monitor, left_monitor}
use Rattle.jvms_machine.specs.Start.{Start}
use Rattle.jvms_machine.specs.State.{Sound, State, monitor_at}
use Rattle.jvms_machine.specs.Turn.{CanBeEntered, CanBeLocked, CanBeMade, IsReady}
use Rattle.jvms_machine.specs.declared.action.Effect.{Effect}
use Rattle.jvms_machine.specs.declared.action.Exception.{Exception}
use Rattle.jvms_machine.specs.declared.action.Lock.{Lock}
use Rattle.jvms_machine.specs.declared.action.MonitorUse.{MonitorUse}
use Rattle.jvms_machine.specs.declared.machine.Limits.{Limits}
use Rattle.jvms_machine.specs.declared.trace.Item.{Item}
use Rattle.jvms_machine.specs.declared.value.Value.{Value}
use Rattle.jvms_program.specs.BuiltIn.{is_built_in}
use Rattle.jvms_program.specs.Program.{field_key_at, key_of}
use Rattle.jvms_program.specs.declared.key.FieldKey.{FieldKey}
use Rattle.jvms_program.specs.declared.key.MethodKey.{MethodKey}
use Rattle.jvms_program.specs.declared.number.MethodNumber.{MethodNumber}
use Rattle.jvms_program.specs.declared.program.Class.{Class}
use Rattle.std.proofs.Common.{Bool, List, None, Option, Some, [], ap, cond, false, map, not, refl, slice_get, sym, true, ℕ, ◌++◌, ◌==◌, ◌∙◌, ◌∷◌, ◌≡◌}
use Rattle.std.proofs.lemmas.Bool.{cond-false, cond_both, false≢true}
use Rattle.std.specs.List.{filter}
use Rattle.jvms_machine.specs.declared.action.Action.TheVariants as action
use Rattle.jvms_machine.specs.declared.action.Effect.TheVariants as effect
use Rattle.jvms_machine.specs.declared.action.Exception.TheVariants as exception
use Rattle.jvms_machine.specs.declared.trace.Item.TheVariants as item
use Rattle.jvms_machine.specs.declared.action.Lock.TheVariants as lock

-- ---- Quiet actions

-- An inner use isn't the outermost.
not_outermost : (b : Bool) → not b ≡ true → b ≡ false
not_outermost true inner = absurd (false≢true inner)
not_outermost false inner = refl

quiet_starts_none : (what : Effect (List ℕ)) → is_quiet_effect what ≡ true → starts_none what ≡ true
quiet_starts_none (effect.Starts r u) quiet = absurd (false≢true quiet)
quiet_starts_none _ quiet = refl

-- A quiet action neither starts nor ends a thread, and begins no initialisation.
pub quiet_starts : (act : TurnAction) → is_quiet act ≡ true → starts_no_thread act ≡ true
quiet_starts (action.Reaches what act) quiet = quiet_starts_none what quiet
quiet_starts _ quiet = refl

pub quiet_begins_none : (act : TurnAction) → is_quiet act ≡ true → begins_none act ≡ true
quiet_begins_none (action.Begins class) quiet = absurd (false≢true quiet)
quiet_begins_none _ quiet = refl

pub quiet_goes_on : (act : TurnAction) → is_quiet act ≡ true → ends_thread (outcome_of_action act) ≡ false
quiet_goes_on (action.Goes act) quiet = refl
quiet_goes_on (action.Reaches what act) quiet = refl
quiet_goes_on (action.Begins class) quiet = refl
quiet_goes_on (action.Finishes class) quiet = refl
quiet_goes_on (action.Enters method body locked) quiet = refl
quiet_goes_on (action.Ends method result unlock) quiet = absurd (false≢true quiet)
quiet_goes_on (action.Calls method body takes locked) quiet = refl
quiet_goes_on (action.Returns method result unlock) quiet = refl
quiet_goes_on (action.Initialises method body) quiet = refl
quiet_goes_on (action.Throws r) quiet = refl
quiet_goes_on (action.Catches r target) quiet = refl
quiet_goes_on (action.Unwinds method true unlock) quiet = absurd (false≢true quiet)
quiet_goes_on (action.Unwinds method false unlock) quiet = refl
quiet_goes_on (action.FailsToUnlock method e true) quiet = absurd (false≢true quiet)
quiet_goes_on (action.FailsToUnlock method e false) quiet = refl
quiet_goes_on (action.FailsInitialisation class e last) quiet = absurd (false≢true quiet)
quiet_goes_on (action.Waits w) quiet = absurd (false≢true quiet)
quiet_goes_on (action.Retakes w) quiet = absurd (false≢true quiet)
quiet_goes_on (action.Raises e) quiet = refl
quiet_goes_on (action.Fails e) quiet = absurd (false≢true quiet)

-- ---- Monitors of quiet actions

-- None of these items releases a monitor.
abbrev ReleasesNone : List Item → Type 0
ReleasesNone items = filter is_release items ≡ []

no_map : {X Y : Type 0} (f : X → Y) (xs : List X) → map f xs ≡ [] → xs ≡ []
no_map f [] none = refl
no_map f (x ∷ xs) none = absurd (cc)

not_one : (b : Bool) (r : ℕ) → cond b (r ∷ []) [] ≡ [] → b ≡ false
not_one true r none = absurd (cc)
not_one false r none = refl

exits_release_none : (program : List Class) (t : ℕ) (o : Option MethodKey) → ReleasesNone (mark (λ key. item.Exit t key) o)
exits_release_none program t None = refl
exits_release_none program t (Some key) = cond_both (is_built_in key.class) _ _ ReleasesNone (λ _. refl) (λ _. refl)

inner_releases_none : (t : ℕ) (monitor : MonitorUse) → is_inner monitor ≡ true → release_items t monitor ≡ []
inner_releases_none t monitor inner = cond-false monitor.outermost (item.Release t monitor.reference ∷ []) [] (not_outermost monitor.outermost inner)

module _ (program : List Class) (limits : Limits) (start : Start) (s : State) (t : ℕ) (sound : Sound program limits s) where
  -- Each thread may enter the same monitors.
  abbrev pub KeepsMonitors : State → Type 0
  KeepsMonitors after = KeepsHolds s.monitors after.monitors

  entered_keeps : (monitor : MonitorUse) → is_inner monitor ≡ true → CanBeEntered s monitor → KeepsHolds s.monitors (entered_monitor t monitor.reference s.monitors)
  entered_keeps monitor inner can =
      inner_entered t monitor.reference (monitor_at s.monitors monitor.reference) s.monitors refl (sym can.0 ∙ not_outermost monitor.outermost inner)

  lock_keeps : (locked : Lock) → is_quiet_lock locked ≡ true → CanBeLocked s locked → KeepsMonitors (with_lock program s t locked)
  lock_keeps lock.Nothing quiet can = λ v r. refl
  lock_keeps (lock.Monitor monitor) quiet can = entered_keeps monitor quiet can
  lock_keeps (lock.NewClass class r) quiet can = absurd (false≢true quiet)

  -- If no monitor is released, the monitor that is left was entered more than once.
  left_keeps : (after : State) (q : ℕ) → after.monitors ≡ left_monitor q s.monitors → releases_between t s after ≡ [] → KeepsHolds s.monitors (left_monitor q s.monitors)
  left_keeps after q made none =
      let kept : newly_held (left_monitor q s.monitors) s.monitors ≡ [] = ap (λ ms. newly_held ms s.monitors) (sym made) ∙ no_map (λ r. item.Release t r) (newly_held after.monitors s.monitors) none in
      inner_left q (monitor_at s.monitors q) s.monitors refl
      (λ h at. not_one (h.count == 1) q (sym (left_old s.heap s.threads q h s.monitors sound.monitors at) ∙ kept))

  unlock_keeps : (after : State) (unlock : Option MonitorUse) (method : MethodNumber) → is_quiet_unlock unlock ≡ true → after.monitors ≡ (with_unlock s unlock).monitors → filter is_release (unlock_items t unlock ++ exit_items program t method) ≡ releases_between t s after → KeepsMonitors (with_unlock s unlock)
  unlock_keeps after None method quiet made releases = λ v r. refl
  unlock_keeps after (Some monitor) method quiet made releases =
      left_keeps after monitor.reference made
      (sym releases ∙ ap (λ items. filter is_release (items ++ exit_items program t method)) (inner_releases_none t monitor quiet) ∙ exits_release_none program t (key_of program method))

  field_keeps : (r : ℕ) (v : Value) (o : Option FieldKey) → KeepsMonitors (put_field s r v o)
  field_keeps r v None = λ w q. refl
  field_keeps r v (Some key) = λ w q. refl

  static_keeps : (v : Value) (o : Option FieldKey) → KeepsMonitors (put_static s v o)
  static_keeps v None = λ w q. refl
  static_keeps v (Some key) = λ w q. refl

  pub exception_keeps : (e : Exception) → KeepsMonitors (with_exception program s e)
  exception_keeps (exception.New class) = λ v r. refl
  exception_keeps (exception.Existing r) = λ v q. refl

  effect_keeps : (after : State) (operands : List Value) (what : Effect (List ℕ)) → is_quiet_effect what ≡ true → CanBeMade s operands what → (others : List Value) → after.monitors ≡ (after_effect program s t others what).monitors → filter is_release (effect_items program t what) ≡ releases_between t s after → KeepsMonitors (after_effect program s t others what)
  effect_keeps after operands effect.Nothing quiet can others made releases = λ w q. refl
  effect_keeps after operands (effect.GetField r n) quiet can others made releases = λ w q. refl
  effect_keeps after operands (effect.PutField r n v) quiet can others made releases = field_keeps r v (field_key_at program n)
  effect_keeps after operands (effect.GetStatic n) quiet can others made releases = λ w q. refl
  effect_keeps after operands (effect.PutStatic n v) quiet can others made releases = static_keeps v (field_key_at program n)
  effect_keeps after operands (effect.LoadElement r i) quiet can others made releases = λ w q. refl
  effect_keeps after operands (effect.StoreElement r i v) quiet can others made releases = λ w q. refl
  effect_keeps after operands (effect.Creates what) quiet can others made releases = λ w q. refl
  effect_keeps after operands (effect.Prints what ends_line) quiet can others made releases = λ w q. refl
  effect_keeps after operands (effect.Locks monitor) quiet can others made releases = entered_keeps monitor quiet can
  effect_keeps after operands (effect.Unlocks monitor) quiet can others made releases =
      left_keeps after monitor.reference made (sym releases ∙ ap (filter is_release) (inner_releases_none t monitor quiet))
  effect_keeps after operands (effect.Starts r u) quiet can others made releases = absurd (false≢true quiet)
  effect_keeps after operands (effect.Joins u) quiet can others made releases = λ w q. refl
  effect_keeps after operands (effect.Notifies r all) quiet can others made releases = λ w q. refl

  -- The releases among an action's items are those between the states.
  abbrev Releases : TurnAction → Type 0
  Releases act = filter is_release (items_of program t act) ≡ releases_between t s (applied_to program start s t act)

  pub action_keeps : (act : TurnAction) → is_quiet act ≡ true → IsReady start s t act → Releases act → KeepsMonitors (applied_to program start s t act)
  unfolding applied_to items_of
  action_keeps (action.Goes act) quiet ready releases = λ w q. refl
  action_keeps (action.Reaches what act) quiet ready releases =
      effect_keeps (with_changed (after_effect program s t (operands_of (slice_get s.threads t)) what) t (thread_after_action act)) _ what quiet ready.3 (operands_of (slice_get s.threads t)) refl releases
  action_keeps (action.Begins class) quiet ready releases = absurd (false≢true quiet)
  action_keeps (action.Finishes class) quiet ready releases = absurd (false≢true quiet)
  action_keeps (action.Enters method body locked) quiet ready releases = lock_keeps locked quiet ready.1
  action_keeps (action.Ends method result unlock) quiet ready releases = absurd (false≢true quiet)
  action_keeps (action.Calls method body takes locked) quiet ready releases = lock_keeps locked quiet ready.2
  action_keeps (action.Returns method result unlock) quiet ready releases =
      unlock_keeps (with_changed (with_unlock s unlock) t (after_return result)) unlock method quiet refl releases
  action_keeps (action.Initialises method body) quiet ready releases = λ w q. refl
  action_keeps (action.Throws r) quiet ready releases = λ w q. refl
  action_keeps (action.Catches r target) quiet ready releases = λ w q. refl
  action_keeps (action.Unwinds method true unlock) quiet ready releases = absurd (false≢true quiet)
  action_keeps (action.Unwinds method false unlock) quiet ready releases =
      unlock_keeps (with_changed (with_unlock s unlock) t (unwound false)) unlock method quiet refl releases
  action_keeps (action.FailsToUnlock method e last) quiet ready releases = exception_keeps e
  action_keeps (action.FailsInitialisation class e last) quiet ready releases = absurd (false≢true quiet)
  action_keeps (action.Waits w) quiet ready releases = absurd (false≢true quiet)
  action_keeps (action.Retakes w) quiet ready releases = absurd (false≢true quiet)
  action_keeps (action.Raises e) quiet ready releases = exception_keeps e
  action_keeps (action.Fails e) quiet ready releases = absurd (false≢true quiet)

-- ---- Initialisations of quiet actions

module _ (program : List Class) (start : Start) (s : State) (t : ℕ) where
  abbrev pub KeepsInitialisations : State → Type 0
  KeepsInitialisations after = after.initialisations ≡ s.initialisations

  effect_initialises_none : (others : List Value) (what : Effect (List ℕ)) → KeepsInitialisations (after_effect program s t others what)
  effect_initialises_none others effect.Nothing = refl
  effect_initialises_none others (effect.GetField r n) = refl
  effect_initialises_none others (effect.PutField r n v) = put_initialises_none (field_key_at program n)
    where
      put_initialises_none : (o : Option FieldKey) → KeepsInitialisations (put_field s r v o)
      put_initialises_none None = refl
      put_initialises_none (Some key) = refl
  effect_initialises_none others (effect.GetStatic n) = refl
  effect_initialises_none others (effect.PutStatic n v) = put_initialises_none (field_key_at program n)
    where
      put_initialises_none : (o : Option FieldKey) → KeepsInitialisations (put_static s v o)
      put_initialises_none None = refl
      put_initialises_none (Some key) = refl
  effect_initialises_none others (effect.LoadElement r i) = refl
  effect_initialises_none others (effect.StoreElement r i v) = refl
  effect_initialises_none others (effect.Creates what) = refl
  effect_initialises_none others (effect.Prints what ends_line) = refl
  effect_initialises_none others (effect.Locks monitor) = refl
  effect_initialises_none others (effect.Unlocks monitor) = refl
  effect_initialises_none others (effect.Starts r u) = refl
  effect_initialises_none others (effect.Joins u) = refl
  effect_initialises_none others (effect.Notifies r all) = refl

  pub lock_initialises_none : (locked : Lock) → KeepsInitialisations (with_lock program s t locked)
  lock_initialises_none lock.Nothing = refl
  lock_initialises_none (lock.Monitor monitor) = refl
  lock_initialises_none (lock.NewClass class r) = refl

  pub unlock_initialises_none : (unlock : Option MonitorUse) → KeepsInitialisations (with_unlock s unlock)
  unlock_initialises_none None = refl
  unlock_initialises_none (Some monitor) = refl

  pub exception_initialises_none : (e : Exception) → KeepsInitialisations (with_exception program s e)
  exception_initialises_none (exception.New class) = refl
  exception_initialises_none (exception.Existing r) = refl

  pub quiet_initialises_none : (act : TurnAction) → is_quiet act ≡ true → KeepsInitialisations (applied_to program start s t act)
  unfolding applied_to
  quiet_initialises_none (action.Goes act) quiet = refl
  quiet_initialises_none (action.Reaches what act) quiet = effect_initialises_none (operands_of (slice_get s.threads t)) what
  quiet_initialises_none (action.Begins class) quiet = absurd (false≢true quiet)
  quiet_initialises_none (action.Finishes class) quiet = absurd (false≢true quiet)
  quiet_initialises_none (action.Enters method body locked) quiet = lock_initialises_none locked
  quiet_initialises_none (action.Ends method result unlock) quiet = absurd (false≢true quiet)
  quiet_initialises_none (action.Calls method body takes locked) quiet = lock_initialises_none locked
  quiet_initialises_none (action.Returns method result unlock) quiet = unlock_initialises_none unlock
  quiet_initialises_none (action.Initialises method body) quiet = refl
  quiet_initialises_none (action.Throws r) quiet = refl
  quiet_initialises_none (action.Catches r target) quiet = refl
  quiet_initialises_none (action.Unwinds method last unlock) quiet = unlock_initialises_none unlock
  quiet_initialises_none (action.FailsToUnlock method e last) quiet = exception_initialises_none e
  quiet_initialises_none (action.FailsInitialisation class e last) quiet = absurd (false≢true quiet)
  quiet_initialises_none (action.Waits w) quiet = absurd (false≢true quiet)
  quiet_initialises_none (action.Retakes w) quiet = absurd (false≢true quiet)
  quiet_initialises_none (action.Raises e) quiet = exception_initialises_none e
  quiet_initialises_none (action.Fails e) quiet = absurd (false≢true quiet)
