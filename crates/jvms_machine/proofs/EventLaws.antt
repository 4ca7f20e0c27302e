-- The entries and exits of monitors and the starts of threads among the items of a turn are those that the states
-- before and after it determine.
use Rattle.std.proofs.Common.{◌≡◌, ℕ, ◌+◌, ◌-◌, ◌==◌, Bool, true, false, cond, List, [], ◌∷◌, ◌++◌, length, map, Option, Some, None, is_none, IfSome, slice_get, refl, sym, ap, ◌∙◌, arith, length-set, length-append}
use Rattle.std.specs.List.{filter, range_with_len}
use Rattle.std.proofs.lemmas.Bool.{cond_both, cond-false}
use Rattle.std.proofs.lemmas.List.{append-nil}
use Rattle.std.proofs.lemmas.List.Elements.{filter-append}
use Rattle.jvms_machine.specs.declared.trace.Item.{Item}
use Rattle.jvms_machine.specs.declared.trace.Item.TheVariants as item
use Rattle.jvms_machine.specs.declared.trace.Variable.{Variable}
use Rattle.jvms_machine.specs.declared.value.Value.{Value}
use Rattle.jvms_machine.specs.declared.machine.Limits.{Limits}
use Rattle.jvms_machine.specs.declared.action.MonitorUse.{MonitorUse}
use Rattle.jvms_machine.specs.declared.action.Lock.{Lock}
use Rattle.jvms_machine.specs.declared.action.Lock.TheVariants as lock
use Rattle.jvms_machine.specs.declared.action.Exception.{Exception}
use Rattle.jvms_machine.specs.declared.action.Exception.TheVariants as exception
use Rattle.jvms_machine.specs.declared.action.FrameAction.{FrameAction}
use Rattle.jvms_machine.specs.declared.action.Effect.{Effect}
use Rattle.jvms_machine.specs.declared.action.Effect.TheVariants as effect
use Rattle.jvms_machine.specs.declared.action.Action.TheVariants as action
use Rattle.jvms_machine.specs.declared.action.Decision.TheVariants as decision
use Rattle.jvms_program.specs.declared.key.MethodKey.{MethodKey}
use Rattle.jvms_program.specs.declared.key.FieldKey.{FieldKey}
use Rattle.jvms_program.specs.declared.number.MethodNumber.{MethodNumber}
use Rattle.jvms_program.specs.declared.program.Class.{Class}
use Rattle.jvms_program.specs.BuiltIn.{is_built_in}
use Rattle.jvms_program.specs.Program.{key_of, field_key_at}
use Rattle.jvms_machine.specs.Decisions.{TurnAction, TurnDecision}
use Rattle.jvms_machine.specs.State.{State, Thread, new_thread, monitor_at, Sound}
use Rattle.jvms_machine.specs.Start.{Start}
use Rattle.jvms_machine.specs.Actions.{mark, event, instance_variable, static_variable, enter_items, exit_items, release_items, lock_items, unlock_items, effect_items, changed_to, with_changed, with_lock, with_unlock, with_waiter, with_retaken, put_to_wait, after_wait, with_result, with_exception, with_class_constants, put_field, put_static, after_effect, operands_of, thread_after_action, applied_to, items_of}
use Rattle.jvms_machine.specs.Turn.{CanBeLocked, CanBeMade, IsReady, IsReadyToMake, state_after, items_after}
use Rattle.jvms_machine.specs.Events.{is_acquire, is_release, is_fork, newly_held, acquires_between, releases_between, forks_between}
use Rattle.jvms_machine.proofs.KeptStates.{IsLeft, IsHeardEffect, IsHeard, IsHeardOf}
use Rattle.jvms_machine.proofs.HeldMonitors.{none_new_in_same, entered_new, entered_old, left_new, left_old, freed_new, freed_old, retaken_new, retaken_old}

-- The events of a turn are those that its states determine.
pub record HasEventsOf (t : ℕ) (before after : State) (items : List Item) : Type 0 where
  pub acquires : filter is_acquire items ≡ acquires_between t before after
  pub releases : filter is_release items ≡ releases_between t before after
  pub forks : filter is_fork items ≡ forks_between t before after

-- ---- Items that are none of these events

-- No item passes these tests.
record AreOther (items : List Item) : Type 0 where
  pub acquires : filter is_acquire items ≡ []
  pub releases : filter is_release items ≡ []
  pub forks : filter is_fork items ≡ []

none_are_other : AreOther []
none_are_other = record { acquires = refl; releases = refl; forks = refl }

marked : (test : Item → Bool) (make : MethodKey → Item) → ((key : MethodKey) → test (make key) ≡ false) → (o : Option MethodKey) → filter test (mark make o) ≡ []
marked test make fails None = refl
marked test make fails (Some key) =
    cond_both (is_built_in key.class) _ _ (λ items. filter test items ≡ []) (λ _. refl) (λ _. cond-false (test (make key)) (make key ∷ []) [] (fails key))

entries_are_other : (program : List Class) (t : ℕ) (m : MethodNumber) → AreOther (enter_items program t m)
entries_are_other program t m =
    record {
      acquires = marked is_acquire (λ key. item.Enter t key) (λ key. refl) (key_of program m);
      releases = marked is_release (λ key. item.Enter t key) (λ key. refl) (key_of program m);
      forks = marked is_fork (λ key. item.Enter t key) (λ key. refl) (key_of program m);
    }

exits_are_other : (program : List Class) (t : ℕ) (m : MethodNumber) → AreOther (exit_items program t m)
exits_are_other program t m =
    record {
      acquires = marked is_acquire (λ key. item.Exit t key) (λ key. refl) (key_of program m);
      releases = marked is_release (λ key. item.Exit t key) (λ key. refl) (key_of program m);
      forks = marked is_fork (λ key. item.Exit t key) (λ key. refl) (key_of program m);
    }

reads_are_other : (t : ℕ) (o : Option Variable) → AreOther (event (λ v. item.Read t v) o)
reads_are_other t None = record { acquires = refl; releases = refl; forks = refl }
reads_are_other t (Some v) = record { acquires = refl; releases = refl; forks = refl }

writes_are_other : (t : ℕ) (o : Option Variable) → AreOther (event (λ v. item.Write t v) o)
writes_are_other t None = record { acquires = refl; releases = refl; forks = refl }
writes_are_other t (Some v) = record { acquires = refl; releases = refl; forks = refl }

-- Other items before and after don't change the filtered items.
after_others : (test : Item → Bool) (others items : List Item) → filter test others ≡ [] → filter test (others ++ items) ≡ filter test items
after_others test others items none = filter-append test others items ∙ ap (λ is. is ++ filter test items) none

before_others : (test : Item → Bool) (items others : List Item) → filter test others ≡ [] → filter test (items ++ others) ≡ filter test items
before_others test items others none = filter-append test items others ∙ ap (λ is. filter test items ++ is) none ∙ append-nil (filter test items)

-- ---- Events of monitors

-- These monitors become held, and these become free.
record Changes (before after : State) (held free : List ℕ) : Type 0 where
  pub held_are : newly_held before.monitors after.monitors ≡ held
  pub free_are : newly_held after.monitors before.monitors ≡ free
  pub threads_are : length after.threads ≡ length before.threads

no_forks : (t : ℕ) (before after : State) → length after.threads ≡ length before.threads → [] ≡ forks_between t before after
no_forks t before after same =
    let none : length after.threads - length before.threads ≡ 0 = omega arith in
    sym (ap (λ n. map (λ u. item.Fork t u) (range_with_len (length before.threads) n)) none)

has_events : (t : ℕ) (before after : State) (items : List Item) (held free : List ℕ) → Changes before after held free → filter is_acquire items ≡ map (λ r. item.Acquire t r) held → filter is_release items ≡ map (λ r. item.Release t r) free → filter is_fork items ≡ [] → HasEventsOf t before after items
has_events t before after items held free changes acquires releases forks =
    record {
      acquires = acquires ∙ sym (ap (λ (rs : List ℕ). map (λ r. item.Acquire t r) rs) changes.held_are);
      releases = releases ∙ sym (ap (λ (rs : List ℕ). map (λ r. item.Release t r) rs) changes.free_are);
      forks = forks ∙ no_forks t before after changes.threads_are;
    }

-- No monitor and no thread is added or removed.
changes_none : (before after : State) → after.monitors ≡ before.monitors → length after.threads ≡ length before.threads → Changes before after [] []
changes_none before after same threads =
    record {
      held_are = ap (newly_held before.monitors) same ∙ none_new_in_same before.monitors;
      free_are = ap (λ ms. newly_held ms before.monitors) same ∙ none_new_in_same before.monitors;
      threads_are = threads;
    }

quiet : (t : ℕ) (before after : State) (items : List Item) → after.monitors ≡ before.monitors → length after.threads ≡ length before.threads → AreOther items → HasEventsOf t before after items
quiet t before after items same threads other =
    has_events t before after items [] [] (changes_none before after same threads) other.acquires other.releases other.forks

-- The events of one monitor that becomes held, if the condition is true.
acquired : (t r : ℕ) (b : Bool) → (filter is_acquire (cond b (item.Acquire t r ∷ []) []) ≡ map (λ q. item.Acquire t q) (cond b (r ∷ []) [])) × (filter is_release (cond b (item.Acquire t r ∷ []) []) ≡ []) × (filter is_fork (cond b (item.Acquire t r ∷ []) []) ≡ [])
acquired t r true = (refl, refl, refl)
acquired t r false = (refl, refl, refl)

released : (t r : ℕ) (b : Bool) → (filter is_acquire (cond b (item.Release t r ∷ []) []) ≡ []) × (filter is_release (cond b (item.Release t r ∷ []) []) ≡ map (λ q. item.Release t q) (cond b (r ∷ []) [])) × (filter is_fork (cond b (item.Release t r ∷ []) []) ≡ [])
released t r true = (refl, refl, refl)
released t r false = (refl, refl, refl)

changed_length : (threads : List Thread) (t : ℕ) (change : Thread → Thread) (o : Option Thread) → length (changed_to threads t change o) ≡ length threads
changed_length threads t change None = refl
changed_length threads t change (Some thread) = length-set threads t (change thread)

module _ (program : List Class) (s : State) (t : ℕ) where
  abbrev Told : State → List Item → Type 0
  Told after items = HasEventsOf t s after items

  -- The number of threads with one changed.
  same_length : (made : State) (change : Thread → Thread) → length (with_changed made t change).threads ≡ length made.threads
  same_length made change = changed_length made.threads t change (slice_get made.threads t)

  entered_changes : (after : State) (monitor : MonitorUse) → after.monitors ≡ (with_lock program s t (lock.Monitor monitor)).monitors → length after.threads ≡ length s.threads → monitor.outermost ≡ is_none (monitor_at s.monitors monitor.reference) → Changes s after (cond monitor.outermost (monitor.reference ∷ []) []) []
  entered_changes after monitor same threads outermost =
      record {
        held_are = ap (newly_held s.monitors) same ∙ entered_new t monitor.reference (monitor_at s.monitors monitor.reference) s.monitors refl ∙ ap (λ (b : Bool). cond b (monitor.reference ∷ []) []) (sym outermost);
        free_are = ap (λ ms. newly_held ms s.monitors) same ∙ entered_old t monitor.reference s.monitors;
        threads_are = threads;
      }

  new_changes : (after : State) (class r : ℕ) → after.monitors ≡ (with_lock program s t (lock.NewClass class r)).monitors → length after.threads ≡ length s.threads → monitor_at s.monitors r ≡ None → Changes s after (r ∷ []) []
  new_changes after class r same threads free =
      record {
        held_are = ap (newly_held s.monitors) same ∙ entered_new t r None s.monitors free;
        free_are = ap (λ ms. newly_held ms s.monitors) same ∙ entered_old t r s.monitors;
        threads_are = threads;
      }

  -- A call locks after its entry.
  lock_is_told : (after : State) (n : MethodNumber) (locked : Lock) → after.monitors ≡ (with_lock program s t locked).monitors → length after.threads ≡ length s.threads → CanBeLocked s locked → Told after (enter_items program t n ++ lock_items t locked)
  lock_is_told after n lock.Nothing same threads can =
      let others = entries_are_other program t n in
      quiet t s after _ same threads
      (record { acquires = after_others is_acquire (enter_items program t n) (lock_items t lock.Nothing) others.acquires; releases = after_others is_release (enter_items program t n) (lock_items t lock.Nothing) others.releases; forks = after_others is_fork (enter_items program t n) (lock_items t lock.Nothing) others.forks })
  lock_is_told after n (lock.Monitor monitor) same threads can =
      let others = entries_are_other program t n in
      let acquires = acquired t monitor.reference monitor.outermost in
      has_events t s after _ (cond monitor.outermost (monitor.reference ∷ []) []) [] (entered_changes after monitor same threads can.0)
      (after_others is_acquire (enter_items program t n) (lock_items t (lock.Monitor monitor)) others.acquires ∙ acquires.0) (after_others is_release (enter_items program t n) (lock_items t (lock.Monitor monitor)) others.releases ∙ acquires.1) (after_others is_fork (enter_items program t n) (lock_items t (lock.Monitor monitor)) others.forks ∙ acquires.2)
  lock_is_told after n (lock.NewClass class r) same threads can =
      let others = entries_are_other program t n in
      has_events t s after _ (r ∷ []) [] (new_changes after class r same threads can.1)
      (after_others is_acquire (enter_items program t n) (lock_items t (lock.NewClass class r)) others.acquires) (after_others is_release (enter_items program t n) (lock_items t (lock.NewClass class r)) others.releases) (after_others is_fork (enter_items program t n) (lock_items t (lock.NewClass class r)) others.forks)

  left_changes : {limits : Limits} → Sound program limits s → (after : State) (monitor : MonitorUse) → after.monitors ≡ (with_unlock s (Some monitor)).monitors → length after.threads ≡ length s.threads → IsLeft s monitor → Changes s after [] (cond monitor.outermost (monitor.reference ∷ []) [])
  left_changes sound after monitor same threads left =
      record {
        held_are = ap (newly_held s.monitors) same ∙ left_new monitor.reference left.0 s.monitors left.1;
        free_are = ap (λ ms. newly_held ms s.monitors) same ∙ left_old s.heap s.threads monitor.reference left.0 s.monitors sound.monitors left.1 ∙ ap (λ (b : Bool). cond b (monitor.reference ∷ []) []) (sym left.2);
        threads_are = threads;
      }

  -- A popped call leaves its monitor before its exit.
  unlock_is_told : {limits : Limits} → Sound program limits s → (after : State) (n : MethodNumber) (unlock : Option MonitorUse) → after.monitors ≡ (with_unlock s unlock).monitors → length after.threads ≡ length s.threads → IfSome unlock (IsLeft s) → Told after (unlock_items t unlock ++ exit_items program t n)
  unlock_is_told sound after n None same threads left = quiet t s after _ same threads (exits_are_other program t n)
  unlock_is_told sound after n (Some monitor) same threads left =
      let others = exits_are_other program t n in
      let releases = released t monitor.reference monitor.outermost in
      has_events t s after _ [] (cond monitor.outermost (monitor.reference ∷ []) []) (left_changes sound after monitor same threads left)
      (before_others is_acquire (release_items t monitor) (exit_items program t n) others.acquires ∙ releases.0) (before_others is_release (release_items t monitor) (exit_items program t n) others.releases ∙ releases.1) (before_others is_fork (release_items t monitor) (exit_items program t n) others.forks ∙ releases.2)

-- ---- States with the same monitors and threads

abbrev IsBeside : State → State → Type 0
IsBeside s after = (after.monitors ≡ s.monitors) × (after.threads ≡ s.threads)

beside_put_field : (s : State) (r : ℕ) (v : Value) (o : Option FieldKey) → IsBeside s (put_field s r v o)
beside_put_field s r v None = (refl, refl)
beside_put_field s r v (Some key) = (refl, refl)

beside_put_static : (s : State) (v : Value) (o : Option FieldKey) → IsBeside s (put_static s v o)
beside_put_static s v None = (refl, refl)
beside_put_static s v (Some key) = (refl, refl)

beside_constants : (s : State) (o : Option Class) → IsBeside s (with_class_constants s o)
beside_constants s None = (refl, refl)
beside_constants s (Some c) = (refl, refl)

beside_exception : (program : List Class) (s : State) (e : Exception) → IsBeside s (with_exception program s e)
beside_exception program s (exception.New class) = (refl, refl)
beside_exception program s (exception.Existing r) = (refl, refl)

beside_result : (s : State) (t : ℕ) (result : Option Value) → IsBeside s (with_result s t result)
beside_result s t result = cond_both (t == 0) _ _ (IsBeside s) (λ _. (refl, refl)) (λ _. (refl, refl))

locked_threads : (program : List Class) (s : State) (t : ℕ) (locked : Lock) → (with_lock program s t locked).threads ≡ s.threads
locked_threads program s t lock.Nothing = refl
locked_threads program s t (lock.Monitor monitor) = refl
locked_threads program s t (lock.NewClass class r) = refl

unlocked_threads : (s : State) (unlock : Option MonitorUse) → (with_unlock s unlock).threads ≡ s.threads
unlocked_threads s None = refl
unlocked_threads s (Some monitor) = refl

-- ---- The turn

module _ (program : List Class) (limits : Limits) (start : Start) (s : State) (t : ℕ) (sound : Sound program limits s) where
  -- The number of threads is that of a state with the same threads.
  as_many : (made : State) (change : Thread → Thread) → made.threads ≡ s.threads → length (with_changed made t change).threads ≡ length s.threads
  as_many made change same = same_length program s t made change ∙ ap length same

  beside_is_told : (made : State) (change : Thread → Thread) (items : List Item) → IsBeside s made → AreOther items → HasEventsOf t s (with_changed made t change) items
  beside_is_told made change items beside others = quiet t s (with_changed made t change) items beside.0 (as_many made change beside.1) others

  itself_is_told : (change : Thread → Thread) (items : List Item) → AreOther items → HasEventsOf t s (with_changed s t change) items
  itself_is_told change items others = beside_is_told s change items (refl, refl) others

  one_fork : (r u : ℕ) (change : Thread → Thread) → u ≡ length s.threads → item.Fork t u ∷ [] ≡ forks_between t s (with_changed (record s { threads = s.threads ++ new_thread (Some r) ∷ [] }) t change)
  one_fork r u change is =
      let made : State = record s { threads = s.threads ++ new_thread (Some r) ∷ [] } in
      let longer : length made.threads ≡ length s.threads + 1 = length-append s.threads (new_thread (Some r) ∷ []) in
      let one : length (with_changed made t change).threads - length s.threads ≡ 1 = omega (arith, same_length program s t made change) in
      ap (λ v. item.Fork t v ∷ []) is ∙ sym (ap (λ n. map (λ v. item.Fork t v) (range_with_len (length s.threads) n)) one)

  effect_is_told : (operands : List Value) (what : Effect (List ℕ)) (act : FrameAction) → CanBeMade s operands what → IsHeardEffect s what → (others : List Value) → HasEventsOf t s (with_changed (after_effect program s t others what) t (thread_after_action act)) (effect_items program t what)
  effect_is_told operands effect.Nothing act can heard others = itself_is_told (thread_after_action act) [] none_are_other
  effect_is_told operands (effect.GetField r n) act can heard others = itself_is_told (thread_after_action act) _ (reads_are_other t (instance_variable program r n))
  effect_is_told operands (effect.PutField r n v) act can heard others =
      beside_is_told _ (thread_after_action act) _ (beside_put_field s r v (field_key_at program n)) (writes_are_other t (instance_variable program r n))
  effect_is_told operands (effect.GetStatic n) act can heard others = itself_is_told (thread_after_action act) _ (reads_are_other t (static_variable program n))
  effect_is_told operands (effect.PutStatic n v) act can heard others =
      beside_is_told _ (thread_after_action act) _ (beside_put_static s v (field_key_at program n)) (writes_are_other t (static_variable program n))
  effect_is_told operands (effect.LoadElement r i) act can heard others = itself_is_told (thread_after_action act) _ (record { acquires = refl; releases = refl; forks = refl })
  effect_is_told operands (effect.StoreElement r i v) act can heard others =
      beside_is_told _ (thread_after_action act) _ (refl, refl) (record { acquires = refl; releases = refl; forks = refl })
  effect_is_told operands (effect.Creates what) act can heard others = beside_is_told _ (thread_after_action act) _ (refl, refl) none_are_other
  effect_is_told operands (effect.Prints what ends_line) act can heard others = beside_is_told _ (thread_after_action act) _ (refl, refl) none_are_other
  effect_is_told operands (effect.Locks monitor) act can heard others =
      let made = with_lock program s t (lock.Monitor monitor) in
      let after = with_changed made t (thread_after_action act) in
      let acquires = acquired t monitor.reference monitor.outermost in
      has_events t s after _ (cond monitor.outermost (monitor.reference ∷ []) []) [] (entered_changes program s t after monitor refl (as_many made (thread_after_action act) refl) can.0) acquires.0 acquires.1 acquires.2
  effect_is_told operands (effect.Unlocks monitor) act can heard others =
      let made = with_unlock s (Some monitor) in
      let after = with_changed made t (thread_after_action act) in
      let releases = released t monitor.reference monitor.outermost in
      has_events t s after _ [] (cond monitor.outermost (monitor.reference ∷ []) []) (left_changes program s t sound after monitor refl (as_many made (thread_after_action act) refl) heard) releases.0 releases.1 releases.2
  effect_is_told operands (effect.Starts r u) act can heard others =
      record { acquires = sym (ap (λ (rs : List ℕ). map (λ q. item.Acquire t q) rs) (none_new_in_same s.monitors)); releases = sym (ap (λ (rs : List ℕ). map (λ q. item.Release t q) rs) (none_new_in_same s.monitors)); forks = one_fork r u (thread_after_action act) heard }
  effect_is_told operands (effect.Notifies r all) act can heard others = beside_is_told _ (thread_after_action act) _ (refl, refl) none_are_other
  effect_is_told operands (effect.Joins u) act can heard others = itself_is_told (thread_after_action act) _ (record { acquires = refl; releases = refl; forks = refl })

  action_is_told : (act : TurnAction) → IsReady start s t act → IsHeard s act → HasEventsOf t s (applied_to program start s t act) (items_of program t act)
  unfolding applied_to items_of
  action_is_told (action.Goes act) ready heard = itself_is_told (thread_after_action act) [] none_are_other
  action_is_told (action.Reaches what act) ready heard = effect_is_told _ what act ready.3 heard (operands_of (slice_get s.threads t))
  action_is_told (action.Begins class) ready heard =
      let beside = beside_constants s (slice_get program class) in
      quiet t s _ [] beside.0 (as_many (with_class_constants s (slice_get program class)) _ beside.1) none_are_other
  action_is_told (action.Finishes class) ready heard = quiet t s _ [] refl (as_many s _ refl) none_are_other
  action_is_told (action.Enters method body locked) ready heard =
      lock_is_told program s t _ method locked refl (as_many (with_lock program s t locked) _ (locked_threads program s t locked)) ready.1
  action_is_told (action.Ends method result unlock) ready heard =
      let beside = beside_result _ t result in
      unlock_is_told program s t sound _ method unlock beside.0 (ap length beside.1 ∙ as_many (with_unlock s unlock) _ (unlocked_threads s unlock)) heard
  action_is_told (action.Calls method body takes locked) ready heard =
      lock_is_told program s t _ method locked refl (as_many (with_lock program s t locked) _ (locked_threads program s t locked)) ready.2
  action_is_told (action.Returns method result unlock) ready heard =
      unlock_is_told program s t sound _ method unlock refl (as_many (with_unlock s unlock) _ (unlocked_threads s unlock)) heard
  action_is_told (action.Initialises method body) ready heard = itself_is_told _ _ (entries_are_other program t method)
  action_is_told (action.Throws r) ready heard = itself_is_told _ [] none_are_other
  action_is_told (action.Catches r target) ready heard = itself_is_told _ [] none_are_other
  action_is_told (action.Unwinds method last unlock) ready heard =
      unlock_is_told program s t sound _ method unlock refl (as_many (with_unlock s unlock) _ (unlocked_threads s unlock)) heard
  action_is_told (action.FailsToUnlock method e last) ready heard = beside_is_told _ _ _ (beside_exception program s e) (exits_are_other program t method)
  action_is_told (action.FailsInitialisation class e last) ready heard =
      let beside = beside_exception program s e in
      quiet t s _ [] beside.0 (as_many (with_exception program s e) _ beside.1) none_are_other
  action_is_told (action.Waits w) ready heard =
      let after = with_changed (with_waiter s t w.reference) t (put_to_wait w) in
      has_events t s after _ [] (w.reference ∷ [])
      (record {
        held_are = freed_new w.reference s.monitors;
        free_are = freed_old s.heap s.threads w.reference heard.0 s.monitors sound.monitors heard.1;
        threads_are = as_many (with_waiter s t w.reference) (put_to_wait w) refl;
      })
      refl refl refl
  action_is_told (action.Retakes w) ready heard =
      let after = with_changed (with_retaken s t w) t after_wait in
      has_events t s after _ (w.reference ∷ []) []
      (record { held_are = retaken_new t w s.monitors heard; free_are = retaken_old t w s.monitors; threads_are = as_many (with_retaken s t w) after_wait refl })
      refl refl refl
  action_is_told (action.Raises e) ready heard = beside_is_told _ _ [] (beside_exception program s e) none_are_other
  action_is_told (action.Fails e) ready heard = beside_is_told _ _ [] (beside_exception program s e) none_are_other

  -- A decision that is ready and reports its events truly has the events that its states determine.
  pub decision_is_told : (d : TurnDecision) → IsReadyToMake start s t d → IsHeardOf s d → HasEventsOf t s (state_after program start s t d) (items_after program t d)
  decision_is_told (decision.Applies act) ready heard = action_is_told act ready heard
  decision_is_told (decision.Stays o) ready heard = quiet t s s [] refl refl none_are_other
