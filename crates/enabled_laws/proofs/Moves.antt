-- Actions that neither start nor end a thread.
use Rattle.enabled_laws.proofs.BesideThread.{IsBeside, beside_heap, beside_itself, constants_beside, effect_beside, exception_beside, lock_beside, starts_none, unlock_beside}
use Rattle.enabled_laws.proofs.Heaps.{Extends}
use Rattle.enabled_laws.proofs.Kept.{AreSameThreads, threads_same, threads_set}
use Rattle.enabled_laws.proofs.KnownEffects.{IsKnownAction}
use Rattle.enabled_laws.specs.Kept.{ends_thread}
use Rattle.jvms_machine.proofs.ListLaws.{get_set_other}
use Rattle.jvms_machine.specs.Actions.{applied_to, with_initialisation_frame, caught, changed_to, first_called, thread_after_action, operands_of, without_top, put_to_wait, with_pending, after_return, after_throw, unwound, after_wait, with_changed, with_initialisation, with_retaken, with_waiter}
use Rattle.jvms_machine.specs.Decisions.{TurnAction, outcome_of_action}
use Rattle.jvms_machine.specs.Exceptions.{exception_reference}
use Rattle.jvms_machine.specs.Start.{Start}
use Rattle.jvms_machine.specs.State.{State, Thread}
use Rattle.jvms_machine.specs.declared.machine.Limits.{Limits}
use Rattle.jvms_machine.specs.declared.state.Initialisation.{Initialisation}
use Rattle.jvms_program.specs.declared.program.Class.{Class}
use Rattle.std.proofs.Common.{Bool, List, None, Option, Some, ap, false, refl, slice_get, subst, sym, true, ℕ, ◌∙◌, ◌≡◌}
use Rattle.std.proofs.lemmas.Bool.{true≢false}
use Rattle.jvms_machine.specs.declared.action.Action.TheVariants as action
use Rattle.jvms_machine.specs.declared.state.Initialisation.TheVariants as initialisation

-- ---- The thread

-- A turn of thread t that neither starts nor ends a thread.
pub record Moves (t : ℕ) (s after : State) : Type 0 where
  pub heap : Extends s.heap after.heap
  pub threads : AreSameThreads s.threads after.threads
  pub others : (u : ℕ) → (u ≡ t → ⊥) → slice_get after.threads u ≡ slice_get s.threads u

changed_same : (threads : List Thread) (t : ℕ) (change : Thread → Thread) (o : Option Thread) → slice_get threads t ≡ o → ((thread : Thread) → o ≡ Some thread → ((change thread).object ≡ thread.object) × ((change thread).ended ≡ thread.ended)) → AreSameThreads threads (changed_to threads t change o)
changed_same threads t change None at kept = threads_same threads
changed_same threads t change (Some thread) at kept = threads_set threads t thread (change thread) at (kept thread refl).0 (kept thread refl).1

pub other_is : (threads : List Thread) (t u : ℕ) (change : Thread → Thread) (o : Option Thread) → (u ≡ t → ⊥) → slice_get (changed_to threads t change o) u ≡ slice_get threads u
other_is threads t u change None other = refl
other_is threads t u change (Some thread) other = get_set_other threads t u (change thread) other

changed_moves : (s made : State) (t : ℕ) (change : Thread → Thread) → IsBeside s made → ((thread : Thread) → slice_get s.threads t ≡ Some thread → ((change thread).object ≡ thread.object) × ((change thread).ended ≡ thread.ended)) → Moves t s (with_changed made t change)
changed_moves s made t change beside kept =
    let same : (with_changed made t change).threads ≡ changed_to s.threads t change (slice_get s.threads t) = ap (λ (ts : List Thread). changed_to ts t change (slice_get ts t)) beside.threads in
    record {
      heap = beside.heap;
      threads = subst (AreSameThreads s.threads) (sym same) (changed_same s.threads t change (slice_get s.threads t) refl kept);
      others = λ u other. ap (λ (ts : List Thread). slice_get ts u) same ∙ other_is s.threads t u change (slice_get s.threads t) other;
    }

-- ---- Actions that neither start nor end a thread

-- Decides whether an action starts no thread.
abbrev pub starts_no_thread : TurnAction → Bool
starts_no_thread (action.Reaches what act) = starts_none what
starts_no_thread _ = true

module _ (program : List Class) (limits : Limits) (start : Start) (s : State) (t : ℕ) (live : (thread : Thread) → slice_get s.threads t ≡ Some thread → thread.ended ≡ false) where
  same_thread : (change : Thread → Thread) → ((thread : Thread) → ((change thread).object ≡ thread.object) × ((change thread).ended ≡ thread.ended)) → (made : State) → IsBeside s made → Moves t s (with_changed made t change)
  same_thread change kept made beside = changed_moves s made t change beside (λ thread at. kept thread)

  -- A frame of the thread is popped, and the thread hasn't ended.
  popped_thread : (change : Thread → Thread) → ((thread : Thread) → ((change thread).object ≡ thread.object) × ((change thread).ended ≡ false)) → (made : State) → IsBeside s made → Moves t s (with_changed made t change)
  popped_thread change kept made beside = changed_moves s made t change beside (λ thread at. ((kept thread).0, (kept thread).1 ∙ sym (live thread at)))

  -- A change of an initialisation neither starts nor ends a thread.
  initialised_moves : (after : State) (class : ℕ) (how : Initialisation) → Moves t s after → Moves t s (with_initialisation after class how)
  initialised_moves after class how moves = record { heap = moves.heap; threads = moves.threads; others = moves.others }

  pub action_moves : (act : TurnAction) → starts_no_thread act ≡ true → ends_thread (outcome_of_action act) ≡ false → IsKnownAction program s act → Moves t s (applied_to program start s t act)
  unfolding applied_to
  action_moves (action.Goes act) starts ends known = same_thread (thread_after_action act) (λ thread. (refl, refl)) s (beside_itself s)
  action_moves (action.Reaches what act) starts ends known =
      same_thread (thread_after_action act) (λ thread. (refl, refl)) _ (effect_beside program s t (operands_of (slice_get s.threads t)) what starts known)
  action_moves (action.Begins class) starts ends known =
      initialised_moves _ class (initialisation.InProgress t) (same_thread (with_initialisation_frame class) (λ thread. (refl, refl)) _ (constants_beside s (slice_get program class)))
  action_moves (action.Finishes class) starts ends known = initialised_moves _ class initialisation.Done (same_thread without_top (λ thread. (refl, refl)) s (beside_itself s))
  action_moves (action.Enters method body locked) starts ends known =
      same_thread (first_called start method body locked) (λ thread. (refl, refl)) _ (lock_beside program s t locked)
  action_moves (action.Ends method result unlock) starts ends known = absurd (true≢false ends)
  action_moves (action.Calls method body takes locked) starts ends known = same_thread _ (λ thread. (refl, refl)) _ (lock_beside program s t locked)
  action_moves (action.Returns method result unlock) starts ends known = same_thread (after_return result) (λ thread. (refl, refl)) _ (unlock_beside s unlock)
  action_moves (action.Initialises method body) starts ends known = same_thread _ (λ thread. (refl, refl)) s (beside_itself s)
  action_moves (action.Throws r) starts ends known = same_thread (after_throw r) (λ thread. (refl, refl)) s (beside_itself s)
  action_moves (action.Catches r target) starts ends known = same_thread (caught r target) (λ thread. (refl, refl)) s (beside_itself s)
  action_moves (action.Unwinds method true unlock) starts ends known = absurd (true≢false ends)
  action_moves (action.Unwinds method false unlock) starts ends known = popped_thread (unwound false) (λ thread. (refl, refl)) _ (unlock_beside s unlock)
  action_moves (action.FailsToUnlock method e true) starts ends known = absurd (true≢false ends)
  action_moves (action.FailsToUnlock method e false) starts ends known =
      popped_thread (λ thread. unwound false (with_pending (exception_reference s e) thread)) (λ thread. (refl, refl)) _ (exception_beside program s e)
  action_moves (action.FailsInitialisation class e true) starts ends known = absurd (true≢false ends)
  action_moves (action.FailsInitialisation class e false) starts ends known =
      initialised_moves _ class initialisation.Erroneous
      (popped_thread (λ thread. unwound false (with_pending (exception_reference s e) thread)) (λ thread. (refl, refl)) _ (exception_beside program s e))
  action_moves (action.Waits w) starts ends known = same_thread (put_to_wait w) (λ thread. (refl, refl)) _ (beside_heap s (with_waiter s t w.reference) refl refl)
  action_moves (action.Retakes w) starts ends known = same_thread after_wait (λ thread. (refl, refl)) _ (beside_heap s (with_retaken s t w) refl refl)
  action_moves (action.Raises e) starts ends known = same_thread (with_pending (exception_reference s e)) (λ thread. (refl, refl)) _ (exception_beside program s e)
  action_moves (action.Fails e) starts ends known = absurd (true≢false ends)
