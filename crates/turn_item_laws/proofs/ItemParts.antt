-- The items of a turn by their kinds, in the order in which the turn adds them.
use Rattle.std.proofs.Common.{List, None, Option, Some, [], refl, ℕ, ◌++◌, ◌∷◌, ◌≡◌}
use Rattle.std.proofs.lemmas.Bool.{cond_both}
use Rattle.std.specs.List.{filter}
use Rattle.jvms_program.specs.BuiltIn.{is_built_in}
use Rattle.jvms_program.specs.Program.{key_of}
use Rattle.jvms_program.specs.declared.key.MethodKey.{MethodKey}
use Rattle.jvms_program.specs.declared.program.Class.{Class}
use Rattle.jvms_machine.specs.Actions.{acquire_items, effect_items, event, instance_variable, items_of, lock_items, mark, release_items, static_variable, unlock_items}
use Rattle.jvms_machine.specs.Decisions.{TurnAction, TurnDecision}
use Rattle.jvms_machine.specs.Events.{is_acquire, is_fork, is_release}
use Rattle.jvms_machine.specs.Marks.{is_mark}
use Rattle.jvms_machine.specs.Start.{Start}
use Rattle.jvms_machine.specs.State.{State}
use Rattle.jvms_machine.specs.Turn.{decide, items_after, turn}
use Rattle.jvms_machine.specs.declared.action.Action.TheVariants as action
use Rattle.jvms_machine.specs.declared.action.Decision.TheVariants as decision
use Rattle.jvms_machine.specs.declared.action.Effect.{Effect}
use Rattle.jvms_machine.specs.declared.action.Effect.TheVariants as effect
use Rattle.jvms_machine.specs.declared.action.Lock.{Lock}
use Rattle.jvms_machine.specs.declared.action.Lock.TheVariants as lock
use Rattle.jvms_machine.specs.declared.action.MonitorUse.{MonitorUse}
use Rattle.jvms_machine.specs.declared.machine.Limits.{Limits}
use Rattle.jvms_machine.specs.declared.trace.Item.{Item}
use Rattle.jvms_machine.specs.declared.trace.Item.TheVariants as item
use Rattle.jvms_machine.specs.declared.trace.Variable.{Variable}
use Rattle.turn_item_laws.specs.Accesses.{is_access}
use Rattle.turn_item_laws.specs.Joins.{is_join}

abbrev pub parts : List Item → List Item
parts items =
    filter is_release items ++ filter is_mark items ++ filter is_acquire items ++ filter is_fork items ++ filter is_join items ++ filter is_access items

abbrev pub AreInParts : List Item → Type 0
AreInParts items = items ≡ parts items

event_in_parts : (make : Variable → Item) → ((v : Variable) → AreInParts (make v ∷ [])) → (o : Option Variable) → AreInParts (event make o)
event_in_parts make one None = refl
event_in_parts make one (Some v) = one v

acquires_in_parts : (t : ℕ) (monitor : MonitorUse) → AreInParts (acquire_items t monitor)
acquires_in_parts t monitor = cond_both monitor.outermost _ _ AreInParts (λ _. refl) (λ _. refl)

releases_in_parts : (t : ℕ) (monitor : MonitorUse) → AreInParts (release_items t monitor)
releases_in_parts t monitor = cond_both monitor.outermost _ _ AreInParts (λ _. refl) (λ _. refl)

-- An entry comes before what the call locks.
lock_in_parts : (t : ℕ) (locked : Lock) → AreInParts (lock_items t locked)
lock_in_parts t lock.Nothing = refl
lock_in_parts t (lock.Monitor monitor) = acquires_in_parts t monitor
lock_in_parts t (lock.NewClass class r) = refl

entry_with_lock : (t : ℕ) (key : MethodKey) (locked : Lock) → AreInParts (item.Enter t key ∷ lock_items t locked)
entry_with_lock t key lock.Nothing = refl
entry_with_lock t key (lock.Monitor monitor) =
    cond_both monitor.outermost _ _ (λ (items : List Item). AreInParts (item.Enter t key ∷ items)) (λ _. refl) (λ _. refl)
entry_with_lock t key (lock.NewClass class r) = refl

entry_in_parts : (t : ℕ) (o : Option MethodKey) (locked : Lock) → AreInParts (mark (λ key. item.Enter t key) o ++ lock_items t locked)
entry_in_parts t None locked = lock_in_parts t locked
entry_in_parts t (Some key) locked =
    cond_both (is_built_in key.class) _ _ (λ (items : List Item). AreInParts (items ++ lock_items t locked)) (λ _. lock_in_parts t locked) (λ _. entry_with_lock t key locked)

entry_alone : (t : ℕ) (o : Option MethodKey) → AreInParts (mark (λ key. item.Enter t key) o)
entry_alone t None = refl
entry_alone t (Some key) = cond_both (is_built_in key.class) _ _ AreInParts (λ _. refl) (λ _. refl)

-- An exit comes after what the call leaves.
exit_alone : (t : ℕ) (o : Option MethodKey) → AreInParts (mark (λ key. item.Exit t key) o)
exit_alone t None = refl
exit_alone t (Some key) = cond_both (is_built_in key.class) _ _ AreInParts (λ _. refl) (λ _. refl)

exit_with_release : (t r : ℕ) (o : Option MethodKey) → AreInParts (item.Release t r ∷ mark (λ key. item.Exit t key) o)
exit_with_release t r None = refl
exit_with_release t r (Some key) =
    cond_both (is_built_in key.class) _ _ (λ (items : List Item). AreInParts (item.Release t r ∷ items)) (λ _. refl) (λ _. refl)

exit_in_parts : (t : ℕ) (o : Option MethodKey) (unlock : Option MonitorUse) → AreInParts (unlock_items t unlock ++ mark (λ key. item.Exit t key) o)
exit_in_parts t o None = exit_alone t o
exit_in_parts t o (Some monitor) =
    cond_both monitor.outermost _ _ (λ (items : List Item). AreInParts (items ++ mark (λ key. item.Exit t key) o)) (λ _. exit_with_release t monitor.reference o) (λ _. exit_alone t o)

module _ (program : List Class) (t : ℕ) where
  effect_in_parts : (what : Effect (List ℕ)) → AreInParts (effect_items program t what)
  effect_in_parts effect.Nothing = refl
  effect_in_parts (effect.GetField r n) = event_in_parts (λ v. item.Read t v) (λ v. refl) (instance_variable program r n)
  effect_in_parts (effect.PutField r n v) = event_in_parts (λ v. item.Write t v) (λ v. refl) (instance_variable program r n)
  effect_in_parts (effect.GetStatic n) = event_in_parts (λ v. item.Read t v) (λ v. refl) (static_variable program n)
  effect_in_parts (effect.PutStatic n v) = event_in_parts (λ v. item.Write t v) (λ v. refl) (static_variable program n)
  effect_in_parts (effect.LoadElement r i) = refl
  effect_in_parts (effect.StoreElement r i v) = refl
  effect_in_parts (effect.Creates what) = refl
  effect_in_parts (effect.Prints what ends_line) = refl
  effect_in_parts (effect.Locks monitor) = acquires_in_parts t monitor
  effect_in_parts (effect.Unlocks monitor) = releases_in_parts t monitor
  effect_in_parts (effect.Starts r u) = refl
  effect_in_parts (effect.Joins u) = refl
  effect_in_parts (effect.Notifies r all) = refl

  action_in_parts : (act : TurnAction) → AreInParts (items_of program t act)
  unfolding items_of
  action_in_parts (action.Goes act) = refl
  action_in_parts (action.Reaches what act) = effect_in_parts what
  action_in_parts (action.Begins class) = refl
  action_in_parts (action.Finishes class) = refl
  action_in_parts (action.Enters method body locked) = entry_in_parts t (key_of program method) locked
  action_in_parts (action.Ends method result unlock) = exit_in_parts t (key_of program method) unlock
  action_in_parts (action.Calls method body takes locked) = entry_in_parts t (key_of program method) locked
  action_in_parts (action.Returns method result unlock) = exit_in_parts t (key_of program method) unlock
  action_in_parts (action.Initialises method body) = entry_alone t (key_of program method)
  action_in_parts (action.Throws r) = refl
  action_in_parts (action.Catches r target) = refl
  action_in_parts (action.Unwinds method last unlock) = exit_in_parts t (key_of program method) unlock
  action_in_parts (action.FailsToUnlock method e last) = exit_alone t (key_of program method)
  action_in_parts (action.FailsInitialisation class e last) = refl
  action_in_parts (action.Waits w) = refl
  action_in_parts (action.Retakes w) = refl
  action_in_parts (action.Raises e) = refl
  action_in_parts (action.Fails e) = refl

  pub decision_in_parts : (d : TurnDecision) → AreInParts (items_after program t d)
  decision_in_parts (decision.Applies act) = action_in_parts act
  decision_in_parts (decision.Stays o) = refl

-- The items of a turn are its releases, marks, acquires, forks, joins and accesses, in this order.
pub turn_in_parts : (program : List Class) (limits : Limits) (start : Start) (s : State) (t : ℕ) → AreInParts (turn program limits start s t).items
unfolding turn
turn_in_parts program limits start s t = decision_in_parts program t (decide program limits start s t)
