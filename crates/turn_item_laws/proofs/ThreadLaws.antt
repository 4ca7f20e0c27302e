-- The list of threads after a turn: its own thread is changed, the others are kept, and an added thread is new.
use Rattle.std.proofs.Common.{List, None, Option, Some, [], ap, refl, slice_get, slice_set, subst, suc, sym, zero, ℕ, ⊎_elim, ◌++◌, ◌==◌, ◌∙◌, ◌∷◌, ◌≡◌}
use Rattle.std.proofs.lemmas.Bool.{cond_both}
use Rattle.std.proofs.lemmas.Bool.Decides.{eqb_tells}
use Rattle.std.proofs.lemmas.Option.{none-some, same_Some}
use Rattle.jvms_program.specs.Program.{field_key_at}
use Rattle.jvms_program.specs.declared.key.FieldKey.{FieldKey}
use Rattle.jvms_program.specs.declared.program.Class.{Class}
use Rattle.jvms_machine.specs.Actions.{after_effect, applied_to, changed_to, operands_of, put_field, put_static, put_to_wait, after_wait, with_changed, with_class_constants, with_exception, with_lock, with_result, with_retaken, with_unlock, with_waiter}
use Rattle.jvms_machine.specs.Decisions.{TurnAction, TurnDecision}
use Rattle.jvms_machine.specs.Start.{Start}
use Rattle.jvms_machine.specs.State.{State, Thread, new_thread}
use Rattle.jvms_machine.specs.Turn.{decide, state_after, thread_decision, turn}
use Rattle.jvms_machine.specs.declared.action.Action.TheVariants as action
use Rattle.jvms_machine.specs.declared.action.Decision.TheVariants as decision
use Rattle.jvms_machine.specs.declared.action.Effect.{Effect}
use Rattle.jvms_machine.specs.declared.action.Effect.TheVariants as effect
use Rattle.jvms_machine.specs.declared.action.Exception.{Exception}
use Rattle.jvms_machine.specs.declared.action.Exception.TheVariants as exception
use Rattle.jvms_machine.specs.declared.action.Lock.{Lock}
use Rattle.jvms_machine.specs.declared.action.Lock.TheVariants as lock
use Rattle.jvms_machine.specs.declared.action.MonitorUse.{MonitorUse}
use Rattle.jvms_machine.specs.declared.machine.Limits.{Limits}
use Rattle.jvms_machine.specs.declared.value.Value.{Value}
use Rattle.jvms_machine.proofs.ListLaws.{appended_within, get_set_other, get_set_same}

-- ---- Lists

-- The item at an index of a list with one more item, where the list has none, is that item.
appended_new : {X : Type 0} (xs : List X) (i : ℕ) (x y : X) → slice_get xs i ≡ None → slice_get (xs ++ x ∷ []) i ≡ Some y → y ≡ x
appended_new [] zero x y none is = sym (same_Some x y is)
appended_new [] (suc i) x y none is = absurd (none-some y is)
appended_new (z ∷ xs) zero x y none is = absurd (none-some z (sym none))
appended_new (z ∷ xs) (suc i) x y none is = appended_new xs i x y none is

-- An index without an item has none after a write to the list.
set_none : {X : Type 0} (xs : List X) (i j : ℕ) (x : X) → slice_get xs j ≡ None → slice_get (slice_set xs i x) j ≡ None
set_none [] i j x none = none
set_none (y ∷ ys) zero zero x none = absurd (none-some y (sym none))
set_none (y ∷ ys) zero (suc j) x none = none
set_none (y ∷ ys) (suc i) zero x none = none
set_none (y ∷ ys) (suc i) (suc j) x none = set_none ys i j x none

-- ---- States

-- The first threads are at the same indices among the second, and any other of these is new, with a Thread object.
pub record AreThreadsGrown (threads made : List Thread) : Type 0 where
  pub same : (u : ℕ) (thread : Thread) → slice_get threads u ≡ Some thread → slice_get made u ≡ Some thread
  pub new : (u : ℕ) (thread : Thread) → slice_get threads u ≡ None → slice_get made u ≡ Some thread → (r : ℕ) × (thread ≡ new_thread (Some r))

grown_by : (threads made : List Thread) → made ≡ threads → AreThreadsGrown threads made
grown_by threads made is =
    record {
      same = λ u thread there. ap (λ (ts : List Thread). slice_get ts u) is ∙ there;
      new = λ u thread none there. absurd (none-some thread (sym none ∙ ap (λ (ts : List Thread). slice_get ts u) (sym is) ∙ there));
    }

pub grown_not : (threads : List Thread) → AreThreadsGrown threads threads
grown_not threads = grown_by threads threads refl

started_grown : (threads : List Thread) (r : ℕ) → AreThreadsGrown threads (threads ++ new_thread (Some r) ∷ [])
started_grown threads r =
    record {
      same = λ u thread there. appended_within threads (new_thread (Some r) ∷ []) u thread there;
      new = λ u thread none there. (r, appended_new threads u (new_thread (Some r)) thread none there);
    }

pub locked_threads : (program : List Class) (s : State) (t : ℕ) (locked : Lock) → AreThreadsGrown s.threads (with_lock program s t locked).threads
locked_threads program s t lock.Nothing = grown_not s.threads
locked_threads program s t (lock.Monitor monitor) = grown_not s.threads
locked_threads program s t (lock.NewClass class r) = grown_not s.threads

pub unlocked_threads : (s : State) (unlock : Option MonitorUse) → AreThreadsGrown s.threads (with_unlock s unlock).threads
unlocked_threads s None = grown_not s.threads
unlocked_threads s (Some monitor) = grown_not s.threads

pub constants_threads : (s : State) (o : Option Class) → AreThreadsGrown s.threads (with_class_constants s o).threads
constants_threads s None = grown_not s.threads
constants_threads s (Some c) = grown_not s.threads

pub exception_threads : (program : List Class) (s : State) (e : Exception) → AreThreadsGrown s.threads (with_exception program s e).threads
exception_threads program s (exception.New class) = grown_not s.threads
exception_threads program s (exception.Existing r) = grown_not s.threads

field_threads : (s : State) (r : ℕ) (v : Value) (o : Option FieldKey) → AreThreadsGrown s.threads (put_field s r v o).threads
field_threads s r v None = grown_not s.threads
field_threads s r v (Some key) = grown_not s.threads

static_threads : (s : State) (v : Value) (o : Option FieldKey) → AreThreadsGrown s.threads (put_static s v o).threads
static_threads s v None = grown_not s.threads
static_threads s v (Some key) = grown_not s.threads

pub affected_threads : (program : List Class) (s : State) (t : ℕ) (operands : List Value) (what : Effect (List ℕ)) → AreThreadsGrown s.threads (after_effect program s t operands what).threads
affected_threads program s t operands effect.Nothing = grown_not s.threads
affected_threads program s t operands (effect.GetField r n) = grown_not s.threads
affected_threads program s t operands (effect.PutField r n v) = field_threads s r v (field_key_at program n)
affected_threads program s t operands (effect.GetStatic n) = grown_not s.threads
affected_threads program s t operands (effect.PutStatic n v) = static_threads s v (field_key_at program n)
affected_threads program s t operands (effect.LoadElement r i) = grown_not s.threads
affected_threads program s t operands (effect.StoreElement r i v) = grown_not s.threads
affected_threads program s t operands (effect.Creates what) = grown_not s.threads
affected_threads program s t operands (effect.Prints what ends_line) = grown_not s.threads
affected_threads program s t operands (effect.Locks monitor) = grown_not s.threads
affected_threads program s t operands (effect.Unlocks monitor) = grown_not s.threads
affected_threads program s t operands (effect.Starts r v) = started_grown s.threads r
affected_threads program s t operands (effect.Joins v) = grown_not s.threads
affected_threads program s t operands (effect.Notifies r all) = grown_not s.threads

-- ---- One thread is changed

-- The other threads are kept, and any further thread is new, except at the index of the changed one.
pub record AreOthersKept (t : ℕ) (threads made : List Thread) : Type 0 where
  pub same : (u : ℕ) (thread : Thread) → (u ≡ t → ⊥) → slice_get threads u ≡ Some thread → slice_get made u ≡ Some thread
  pub new : (u : ℕ) (thread : Thread) → (u ≡ t → ⊥) → slice_get threads u ≡ None → slice_get made u ≡ Some thread → (r : ℕ) × (thread ≡ new_thread (Some r))

other_is : (threads : List Thread) (t u : ℕ) (change : Thread → Thread) (o : Option Thread) → (u ≡ t → ⊥) → slice_get (changed_to threads t change o) u ≡ slice_get threads u
other_is threads t u change None other = refl
other_is threads t u change (Some thread) other = get_set_other threads t u (change thread) other

changed_kept : (t : ℕ) (threads made : List Thread) (change : Thread → Thread) → AreThreadsGrown threads made → AreOthersKept t threads (changed_to made t change (slice_get made t))
changed_kept t threads made change grown =
    record {
      same = λ u thread other there. other_is made t u change (slice_get made t) other ∙ grown.same u thread there;
      new = λ u thread other none there. grown.new u thread none (sym (other_is made t u change (slice_get made t) other) ∙ there);
    }

result_kept : (t : ℕ) (threads : List Thread) (s : State) (result : Option Value) → AreOthersKept t threads s.threads → AreOthersKept t threads (with_result s t result).threads
result_kept t threads s result kept =
    cond_both (t == 0) (record s { result = result }) s (λ (r : State). AreOthersKept t threads r.threads) (λ _. kept) (λ _. kept)

module _ (program : List Class) (start : Start) (s : State) (t : ℕ) where
  -- Thread t is changed in a state with the same threads, or one more.
  in_state : (made : State) (change : Thread → Thread) → AreThreadsGrown s.threads made.threads → AreOthersKept t s.threads (changed_to made.threads t change (slice_get made.threads t))
  in_state made change grown = changed_kept t s.threads made.threads change grown

  itself : (change : Thread → Thread) → AreOthersKept t s.threads (changed_to s.threads t change (slice_get s.threads t))
  itself change = in_state s change (grown_not s.threads)

  action_keeps : (act : TurnAction) → AreOthersKept t s.threads (applied_to program start s t act).threads
  unfolding applied_to
  action_keeps (action.Goes act) = itself _
  action_keeps (action.Reaches what act) =
      in_state (after_effect program s t (operands_of (slice_get s.threads t)) what) _ (affected_threads program s t (operands_of (slice_get s.threads t)) what)
  action_keeps (action.Begins class) = in_state (with_class_constants s (slice_get program class)) _ (constants_threads s (slice_get program class))
  action_keeps (action.Finishes class) = itself _
  action_keeps (action.Enters method body locked) = in_state (with_lock program s t locked) _ (locked_threads program s t locked)
  action_keeps (action.Ends method result unlock) =
      result_kept t s.threads (with_changed (with_unlock s unlock) t _) result (in_state (with_unlock s unlock) _ (unlocked_threads s unlock))
  action_keeps (action.Calls method body takes locked) = in_state (with_lock program s t locked) _ (locked_threads program s t locked)
  action_keeps (action.Returns method result unlock) = in_state (with_unlock s unlock) _ (unlocked_threads s unlock)
  action_keeps (action.Initialises method body) = itself _
  action_keeps (action.Throws r) = itself _
  action_keeps (action.Catches r target) = itself _
  action_keeps (action.Unwinds method last unlock) = in_state (with_unlock s unlock) _ (unlocked_threads s unlock)
  action_keeps (action.FailsToUnlock method e last) = in_state (with_exception program s e) _ (exception_threads program s e)
  action_keeps (action.FailsInitialisation class e last) = in_state (with_exception program s e) _ (exception_threads program s e)
  action_keeps (action.Waits w) = in_state (with_waiter s t w.reference) (put_to_wait w) (grown_not s.threads)
  action_keeps (action.Retakes w) = in_state (with_retaken s t w) after_wait (grown_not s.threads)
  action_keeps (action.Raises e) = in_state (with_exception program s e) _ (exception_threads program s e)
  action_keeps (action.Fails e) = in_state (with_exception program s e) _ (exception_threads program s e)

  decision_keeps : (d : TurnDecision) → AreOthersKept t s.threads (state_after program start s t d).threads
  decision_keeps (decision.Applies act) = action_keeps act
  decision_keeps (decision.Stays o) = record { same = λ u thread other there. there; new = λ u thread other none there. absurd (none-some thread (sym none ∙ there)) }

-- ---- The object of the thread itself

module _ (program : List Class) (start : Start) (s : State) (t : ℕ) (thread : Thread) (there : slice_get s.threads t ≡ Some thread) where
  abbrev KeepsObject : State → Type 0
  KeepsObject after = (v : Thread) → slice_get after.threads t ≡ Some v → v.object ≡ thread.object

  object_of_changed : (made : State) (change : Thread → Thread) → AreThreadsGrown s.threads made.threads → (change thread).object ≡ thread.object → KeepsObject (with_changed made t change)
  object_of_changed made change grown kept v at =
      let was = grown.same t thread there in
      let is : slice_get (with_changed made t change).threads t ≡ Some (change thread) =
      ap (λ o. slice_get (changed_to made.threads t change o) t) was ∙ get_set_same made.threads t thread (change thread) was in
      sym (ap (λ (w : Thread). w.object) (same_Some (change thread) v (sym is ∙ at))) ∙ kept

  object_of_itself : (change : Thread → Thread) → (change thread).object ≡ thread.object → KeepsObject (with_changed s t change)
  object_of_itself change kept = object_of_changed s change (grown_not s.threads) kept

  object_with_result : (made : State) (result : Option Value) → KeepsObject made → KeepsObject (with_result made t result)
  object_with_result made result kept = cond_both (t == 0) (record made { result = result }) made KeepsObject (λ _. kept) (λ _. kept)

  action_keeps_object : (act : TurnAction) → KeepsObject (applied_to program start s t act)
  unfolding applied_to
  action_keeps_object (action.Goes act) = object_of_itself _ refl
  action_keeps_object (action.Reaches what act) =
      object_of_changed (after_effect program s t (operands_of (slice_get s.threads t)) what) _ (affected_threads program s t (operands_of (slice_get s.threads t)) what) refl
  action_keeps_object (action.Begins class) = object_of_changed (with_class_constants s (slice_get program class)) _ (constants_threads s (slice_get program class)) refl
  action_keeps_object (action.Finishes class) = object_of_itself _ refl
  action_keeps_object (action.Enters method body locked) = object_of_changed (with_lock program s t locked) _ (locked_threads program s t locked) refl
  action_keeps_object (action.Ends method result unlock) =
      object_with_result (with_changed (with_unlock s unlock) t _) result (object_of_changed (with_unlock s unlock) _ (unlocked_threads s unlock) refl)
  action_keeps_object (action.Calls method body takes locked) = object_of_changed (with_lock program s t locked) _ (locked_threads program s t locked) refl
  action_keeps_object (action.Returns method result unlock) = object_of_changed (with_unlock s unlock) _ (unlocked_threads s unlock) refl
  action_keeps_object (action.Initialises method body) = object_of_itself _ refl
  action_keeps_object (action.Throws r) = object_of_itself _ refl
  action_keeps_object (action.Catches r target) = object_of_itself _ refl
  action_keeps_object (action.Unwinds method last unlock) = object_of_changed (with_unlock s unlock) _ (unlocked_threads s unlock) refl
  action_keeps_object (action.FailsToUnlock method e last) = object_of_changed (with_exception program s e) _ (exception_threads program s e) refl
  action_keeps_object (action.FailsInitialisation class e last) = object_of_changed (with_exception program s e) _ (exception_threads program s e) refl
  action_keeps_object (action.Waits w) = object_of_changed (with_waiter s t w.reference) (put_to_wait w) (grown_not s.threads) refl
  action_keeps_object (action.Retakes w) = object_of_changed (with_retaken s t w) after_wait (grown_not s.threads) refl
  action_keeps_object (action.Raises e) = object_of_changed (with_exception program s e) _ (exception_threads program s e) refl
  action_keeps_object (action.Fails e) = object_of_changed (with_exception program s e) _ (exception_threads program s e) refl

  decision_keeps_object : (d : TurnDecision) → KeepsObject (state_after program start s t d)
  decision_keeps_object (decision.Applies act) = action_keeps_object act
  decision_keeps_object (decision.Stays o) = λ v at. sym (ap (λ (w : Thread). w.object) (same_Some thread v (sym there ∙ at)))

-- ---- Turns

pub turn_keeps_others : (program : List Class) (limits : Limits) (start : Start) (s : State) (t u : ℕ) (thread : Thread) → (u ≡ t → ⊥) → slice_get s.threads u ≡ Some thread → slice_get (turn program limits start s t).state.threads u ≡ Some thread
unfolding turn
turn_keeps_others program limits start s t u thread other there = (decision_keeps program start s t (decide program limits start s t)).same u thread other there

-- A thread that wasn't started takes no turn.
nobody_stays : (program : List Class) (limits : Limits) (start : Start) (s : State) (t : ℕ) (o : Option Thread) → o ≡ None → state_after program start s t (thread_decision program limits start s t o) ≡ s
nobody_stays program limits start s t None none = refl
nobody_stays program limits start s t (Some thread) none = absurd (none-some thread (sym none))

nobody_makes : (program : List Class) (limits : Limits) (start : Start) (s : State) (t : ℕ) → slice_get s.threads t ≡ None → (turn program limits start s t).state ≡ s
unfolding turn decide
nobody_makes program limits start s t none = nobody_stays program limits start s t (slice_get s.threads t) none

others_are_new : (program : List Class) (limits : Limits) (start : Start) (s : State) (t u : ℕ) (thread : Thread) → (u ≡ t → ⊥) → slice_get s.threads u ≡ None → slice_get (turn program limits start s t).state.threads u ≡ Some thread → (r : ℕ) × (thread ≡ new_thread (Some r))
unfolding turn
others_are_new program limits start s t u thread other none there = (decision_keeps program start s t (decide program limits start s t)).new u thread other none there

pub turn_starts_new : (program : List Class) (limits : Limits) (start : Start) (s : State) (t u : ℕ) (thread : Thread) → slice_get s.threads u ≡ None → slice_get (turn program limits start s t).state.threads u ≡ Some thread → (r : ℕ) × (thread ≡ new_thread (Some r))
turn_starts_new program limits start s t u thread none there =
    ⊎_elim
    (λ same.
    let own : slice_get s.threads t ≡ None = subst (λ (v : ℕ). slice_get s.threads v ≡ None) same.1 none in
    let stays = nobody_makes program limits start s t own in
    absurd (none-some thread (sym none ∙ sym (ap (λ (r : State). slice_get r.threads u) stays) ∙ there)))
    (λ other. others_are_new program limits start s t u thread other.1 none there)
    (eqb_tells u t)

pub turn_keeps_object : (program : List Class) (limits : Limits) (start : Start) (s : State) (t : ℕ) (thread v : Thread) → slice_get s.threads t ≡ Some thread → slice_get (turn program limits start s t).state.threads t ≡ Some v → v.object ≡ thread.object
unfolding turn
turn_keeps_object program limits start s t thread v there at = decision_keeps_object program start s t thread there (decide program limits start s t) v at
