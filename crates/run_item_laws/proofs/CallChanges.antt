-- How a turn changes the calls of threads. Its own thread loses some of the innermost or gets one more, and all other
-- threads keep theirs.
use Rattle.std.proofs.Common.{◌≡◌, ℕ, zero, suc, ◌==◌, List, [], ◌∷◌, ◌++◌, drop, Option, Some, None, slice_get, inl, inr, ◌⊎◌, refl, sym, ap, ◌∙◌, subst}
use Rattle.std.proofs.lemmas.Bool.{cond_both}
use Rattle.std.proofs.lemmas.List.{append-nil}
use Rattle.jvms_machine.specs.declared.value.Value.{Value}
use Rattle.jvms_machine.specs.declared.machine.Limits.{Limits}
use Rattle.jvms_machine.specs.declared.state.StackFrame.TheVariants as stack_frame
use Rattle.jvms_machine.specs.declared.action.MonitorUse.{MonitorUse}
use Rattle.jvms_machine.specs.declared.action.Lock.{Lock}
use Rattle.jvms_machine.specs.declared.action.Lock.TheVariants as lock
use Rattle.jvms_machine.specs.declared.action.Exception.{Exception}
use Rattle.jvms_machine.specs.declared.action.Exception.TheVariants as exception
use Rattle.jvms_machine.specs.declared.action.Effect.{Effect}
use Rattle.jvms_machine.specs.declared.action.Effect.TheVariants as effect
use Rattle.jvms_machine.specs.declared.action.Action.TheVariants as action
use Rattle.jvms_machine.specs.declared.action.Decision.TheVariants as decision
use Rattle.jvms_program.specs.declared.key.FieldKey.{FieldKey}
use Rattle.jvms_program.specs.declared.number.MethodNumber.{MethodNumber}
use Rattle.jvms_program.specs.declared.program.Class.{Class}
use Rattle.jvms_program.specs.Program.{field_key_at}
use Rattle.jvms_machine.specs.Decisions.{TurnAction, TurnDecision}
use Rattle.jvms_machine.specs.State.{State, Thread, Frame, new_thread}
use Rattle.jvms_machine.specs.Start.{Start}
use Rattle.jvms_machine.specs.Actions.{after_effect, applied_to, stack_after_return, changed_to, initializer_called, operands_of, put_field, put_static, stack_without_operands, stack_after_action, top_handling, with_class_constants, with_exception, with_lock, with_result, with_retaken, with_unlock, with_waiter}
use Rattle.jvms_machine.specs.Marks.{calls, calls_in}
use Rattle.jvms_machine.specs.Turn.{decide, state_after, turn}
use Rattle.jvms_machine.proofs.ListLaws.{get_set_other, get_set_same}
use Rattle.jvms_machine.proofs.MarkLaws.{given_calls, gone_on_calls, returned_calls}

-- The innermost calls are gone, or there is one more.
abbrev pub IsCallsChange : List MethodNumber → List MethodNumber → Type 0
IsCallsChange before after = ((gone : List MethodNumber) × (before ≡ gone ++ after)) ⊎ ((m : MethodNumber) × (after ≡ m ∷ before))

-- The calls of thread t change so, and those of no other thread.
pub record AreCallsChanged (t : ℕ) (before after : List Thread) : Type 0 where
  pub own : IsCallsChange (calls_in (slice_get before t)) (calls_in (slice_get after t))
  pub others : (u : ℕ) → (u ≡ t → ⊥) → calls_in (slice_get after u) ≡ calls_in (slice_get before u)

unchanged : (before after : List MethodNumber) → after ≡ before → IsCallsChange before after
unchanged before after same = inl ([], sym same)

one_more : (m : MethodNumber) (before after : List MethodNumber) → after ≡ before → IsCallsChange before (m ∷ after)
one_more m before after same = inr (m, ap (λ (ms : List MethodNumber). m ∷ ms) same)

-- ---- A change of one thread

abbrev HaveSameCalls : List Thread → List Thread → Type 0
HaveSameCalls threads made = (u : ℕ) → calls_in (slice_get made u) ≡ calls_in (slice_get threads u)

abbrev ChangesCalls : (Thread → Thread) → Type 0
ChangesCalls change = (thread : Thread) → IsCallsChange (calls thread.frames) (calls (change thread).frames)

own_change : (threads : List Thread) (t : ℕ) (change : Thread → Thread) (o : Option Thread) → ChangesCalls change → slice_get threads t ≡ o → IsCallsChange (calls_in o) (calls_in (slice_get (changed_to threads t change o) t))
own_change threads t change None each is = unchanged _ _ (ap calls_in is)
own_change threads t change (Some thread) each is =
    subst (λ o. IsCallsChange (calls thread.frames) (calls_in o)) (sym (get_set_same threads t thread (change thread) is)) (each thread)

other_stays : (threads : List Thread) (t u : ℕ) (change : Thread → Thread) (o : Option Thread) → (u ≡ t → ⊥) → calls_in (slice_get (changed_to threads t change o) u) ≡ calls_in (slice_get threads u)
other_stays threads t u change None other = refl
other_stays threads t u change (Some thread) other = ap calls_in (get_set_other threads t u (change thread) other)

changed : (t : ℕ) (threads made : List Thread) (change : Thread → Thread) → HaveSameCalls threads made → ChangesCalls change → AreCallsChanged t threads (changed_to made t change (slice_get made t))
changed t threads made change same each =
    record {
      own = subst (λ (ms : List MethodNumber). IsCallsChange ms (calls_in (slice_get (changed_to made t change (slice_get made t)) t))) (same t) (own_change made t change (slice_get made t) each refl);
      others = λ u other. other_stays made t u change (slice_get made t) other ∙ same u;
    }

-- ---- How actions change frames

goes_on : (before after : List Frame) → calls after ≡ calls before → IsCallsChange (calls before) (calls after)
goes_on before after same = unchanged (calls before) (calls after) same

handling_calls : (r target : ℕ) (frames : List Frame) → calls (top_handling r target frames) ≡ calls frames
handling_calls r target [] = refl
handling_calls r target (stack_frame.Call f ∷ below) = refl
handling_calls r target (stack_frame.Initialisation class called ∷ below) = refl

initialising_calls : (frames : List Frame) → calls (initializer_called frames) ≡ calls frames
initialising_calls [] = refl
initialising_calls (stack_frame.Call f ∷ below) = refl
initialising_calls (stack_frame.Initialisation class called ∷ below) = refl

popped_calls : (frames : List Frame) → IsCallsChange (calls frames) (calls (drop 1 frames))
popped_calls [] = inl ([], refl)
popped_calls (stack_frame.Call f ∷ below) = inl (f.method ∷ [], refl)
popped_calls (stack_frame.Initialisation class called ∷ below) = inl ([], refl)

returned_change : (result : Option Value) (frames : List Frame) → IsCallsChange (calls frames) (calls (stack_after_return result (drop 1 frames)))
returned_change result frames =
    subst (IsCallsChange (calls frames)) (sym (returned_calls result (drop 1 frames))) (popped_calls frames)

-- ---- States with the same threads, or one more

locked_threads : (program : List Class) (s : State) (t : ℕ) (locked : Lock) → (with_lock program s t locked).threads ≡ s.threads
locked_threads program s t lock.Nothing = refl
locked_threads program s t (lock.Monitor monitor) = refl
locked_threads program s t (lock.NewClass class r) = refl

unlocked_threads : (s : State) (unlock : Option MonitorUse) → (with_unlock s unlock).threads ≡ s.threads
unlocked_threads s None = refl
unlocked_threads s (Some monitor) = refl

constants_threads : (s : State) (o : Option Class) → (with_class_constants s o).threads ≡ s.threads
constants_threads s None = refl
constants_threads s (Some c) = refl

exception_threads : (program : List Class) (s : State) (e : Exception) → (with_exception program s e).threads ≡ s.threads
exception_threads program s (exception.New class) = refl
exception_threads program s (exception.Existing r) = refl

result_threads : (s : State) (t : ℕ) (result : Option Value) → (with_result s t result).threads ≡ s.threads
result_threads s t result = cond_both (t == 0) (record s { result = result }) s (λ (r : State). r.threads ≡ s.threads) (λ _. refl) (λ _. refl)

field_threads : (s : State) (r : ℕ) (v : Value) (o : Option FieldKey) → (put_field s r v o).threads ≡ s.threads
field_threads s r v None = refl
field_threads s r v (Some key) = refl

static_threads : (s : State) (v : Value) (o : Option FieldKey) → (put_static s v o).threads ≡ s.threads
static_threads s v None = refl
static_threads s v (Some key) = refl

same_calls : (threads made : List Thread) → made ≡ threads → HaveSameCalls threads made
same_calls threads made same u = ap (λ (ts : List Thread). calls_in (slice_get ts u)) same

-- A new thread has no call.
started_calls : (threads : List Thread) (object : Option ℕ) → HaveSameCalls threads (threads ++ new_thread object ∷ [])
started_calls [] object zero = refl
started_calls [] object (suc u) = refl
started_calls (v ∷ vs) object zero = refl
started_calls (v ∷ vs) object (suc u) = started_calls vs object u

affected_calls : (program : List Class) (s : State) (t : ℕ) (operands : List Value) (what : Effect (List ℕ)) → HaveSameCalls s.threads (after_effect program s t operands what).threads
affected_calls program s t operands effect.Nothing u = refl
affected_calls program s t operands (effect.GetField r n) u = refl
affected_calls program s t operands (effect.PutField r n v) u = same_calls s.threads _ (field_threads s r v (field_key_at program n)) u
affected_calls program s t operands (effect.GetStatic n) u = refl
affected_calls program s t operands (effect.PutStatic n v) u = same_calls s.threads _ (static_threads s v (field_key_at program n)) u
affected_calls program s t operands (effect.LoadElement r i) u = refl
affected_calls program s t operands (effect.StoreElement r i v) u = refl
affected_calls program s t operands (effect.Creates what) u = refl
affected_calls program s t operands (effect.Prints what ends_line) u = refl
affected_calls program s t operands (effect.Locks monitor) u = refl
affected_calls program s t operands (effect.Unlocks monitor) u = refl
affected_calls program s t operands (effect.Starts r v) u = started_calls s.threads (Some r) u
affected_calls program s t operands (effect.Joins v) u = refl
affected_calls program s t operands (effect.Notifies r all) u = refl

-- ---- Turns

module _ (program : List Class) (start : Start) (s : State) (t : ℕ) where
  -- Thread t changes in a state with the same threads.
  in_same : (made : State) (change : Thread → Thread) → made.threads ≡ s.threads → ChangesCalls change → AreCallsChanged t s.threads (changed_to made.threads t change (slice_get made.threads t))
  in_same made change same each = changed t s.threads made.threads change (same_calls s.threads made.threads same) each

  action_changes : (act : TurnAction) → AreCallsChanged t s.threads (applied_to program start s t act).threads
  unfolding applied_to
  action_changes (action.Goes act) = in_same s _ refl (λ thread. goes_on thread.frames (stack_after_action act thread.frames) (gone_on_calls act thread.frames))
  action_changes (action.Reaches what act) =
      changed t s.threads _ _ (affected_calls program s t (operands_of (slice_get s.threads t)) what) (λ thread. goes_on thread.frames (stack_after_action act thread.frames) (gone_on_calls act thread.frames))
  action_changes (action.Begins class) =
      in_same (with_class_constants s (slice_get program class)) _ (constants_threads s (slice_get program class)) (λ thread. inl ([], refl))
  action_changes (action.Finishes class) = in_same s _ refl (λ thread. popped_calls thread.frames)
  action_changes (action.Enters method body locked) =
      in_same (with_lock program s t locked) _ (locked_threads program s t locked) (λ thread. one_more method (calls thread.frames) (calls thread.frames) refl)
  action_changes (action.Ends method result unlock) =
      subst (AreCallsChanged t s.threads) (sym (result_threads _ t result))
      (in_same (with_unlock s unlock) _ (unlocked_threads s unlock) (λ thread. inl (calls thread.frames, sym (append-nil (calls thread.frames)))))
  action_changes (action.Calls method body takes locked) =
      in_same (with_lock program s t locked) _ (locked_threads program s t locked) (λ thread. one_more method (calls thread.frames) (calls (stack_without_operands takes thread.frames)) (given_calls takes thread.frames))
  action_changes (action.Returns method result unlock) =
      in_same (with_unlock s unlock) _ (unlocked_threads s unlock) (λ thread. returned_change result thread.frames)
  action_changes (action.Initialises method body) =
      in_same s _ refl (λ thread. one_more method (calls thread.frames) (calls (initializer_called thread.frames)) (initialising_calls thread.frames))
  action_changes (action.Throws r) = in_same s _ refl (λ thread. goes_on thread.frames (stack_without_operands 1 thread.frames) (given_calls 1 thread.frames))
  action_changes (action.Catches r target) = in_same s _ refl (λ thread. goes_on thread.frames (top_handling r target thread.frames) (handling_calls r target thread.frames))
  action_changes (action.Unwinds method last unlock) =
      in_same (with_unlock s unlock) _ (unlocked_threads s unlock) (λ thread. popped_calls thread.frames)
  action_changes (action.FailsToUnlock method e last) =
      in_same (with_exception program s e) _ (exception_threads program s e) (λ thread. popped_calls thread.frames)
  action_changes (action.FailsInitialisation class e last) =
      in_same (with_exception program s e) _ (exception_threads program s e) (λ thread. popped_calls thread.frames)
  action_changes (action.Waits w) =
      in_same (with_waiter s t w.reference) _ refl (λ thread. goes_on thread.frames (stack_without_operands 1 thread.frames) (given_calls 1 thread.frames))
  action_changes (action.Retakes w) =
      in_same (with_retaken s t w) _ refl (λ thread. goes_on thread.frames (stack_after_return None thread.frames) (returned_calls None thread.frames))
  action_changes (action.Raises e) = in_same (with_exception program s e) _ (exception_threads program s e) (λ thread. inl ([], refl))
  action_changes (action.Fails e) = in_same (with_exception program s e) _ (exception_threads program s e) (λ thread. inl ([], refl))

  decision_changes : (d : TurnDecision) → AreCallsChanged t s.threads (state_after program start s t d).threads
  decision_changes (decision.Applies act) = action_changes act
  decision_changes (decision.Stays o) = record { own = inl ([], refl); others = λ u other. refl }

-- A turn changes no other thread's calls. Its own thread loses some of the innermost or gets one more.
pub turn_changes_calls : (program : List Class) (limits : Limits) (start : Start) (s : State) (t : ℕ) → AreCallsChanged t s.threads (turn program limits start s t).state.threads
unfolding turn
turn_changes_calls program limits start s t = decision_changes program start s t (decide program limits start s t)
