-- Turns that relate the parts of the state on which other threads' turns depend.
use Rattle.enabled_laws.proofs.BesideThread.{IsBeside}
use Rattle.enabled_laws.proofs.EnabledTurns.{outcomes_fit, outcomes_same}
use Rattle.enabled_laws.proofs.Heaps.{Extends, IsSized}
use Rattle.enabled_laws.proofs.Kept.{WaitStays, is_over, locks_kept, may_enter, may_lock, retakes_by}
use Rattle.enabled_laws.proofs.Moves.{other_is}
use Rattle.enabled_laws.proofs.QuietTurns.{IsKnown}
use Rattle.enabled_laws.proofs.Related.{AsBefore, Asked, IsRelation, Stays, may_join}
use Rattle.jvms_machine.proofs.TurnSoundness.{turn_keeps}
use Rattle.jvms_machine.specs.Actions.{changed_to, with_changed}
use Rattle.jvms_machine.specs.Heap.{value_of}
use Rattle.jvms_machine.specs.Start.{Start}
use Rattle.jvms_machine.specs.State.{Sound, State, Thread, class_reference, monitor_at, new_thread, same_object, waits_for}
use Rattle.jvms_machine.specs.Status.{is_bad, is_enabled}
use Rattle.jvms_machine.specs.Threads.{thread_of}
use Rattle.jvms_machine.specs.Turn.{turn}
use Rattle.jvms_machine.specs.declared.machine.Limits.{Limits}
use Rattle.jvms_machine.specs.declared.state.Hold.{Hold}
use Rattle.jvms_machine.specs.declared.state.Initialisation.{Initialisation}
use Rattle.jvms_program.specs.declared.key.FieldKey.{FieldKey}
use Rattle.jvms_program.specs.declared.program.Class.{Class}
use Rattle.std.proofs.Common.{Bool, List, None, Option, Some, [], ap, cond, false, refl, slice_get, slice_set, subst, suc, sym, true, zero, ℕ, ◌++◌, ◌+◌, ◌∙◌, ◌∷◌, ◌≡◌, ◌⊎◌}
use Rattle.std.proofs.lemmas.Iterator.Adapters.{position_from-zero}
use Rattle.std.proofs.lemmas.Option.{none-some, same_Some}
use Rattle.std.specs.List.{position_from}

-- ---- Turns that only take, and turns that only give

-- The threads have the same objects. Whether they have ended is related, and new ones haven't.
abbrev AreThreads : (Bool → Bool → Type 0) → List Thread → List Thread → Type 0
AreThreads Rel [] [] = Unit {0}
AreThreads Rel [] (y ∷ ys) = ((b : Bool) → Rel true b) × (y.ended ≡ false) × AreThreads Rel [] ys
AreThreads Rel (x ∷ xs) [] = ⊥
AreThreads Rel (x ∷ xs) (y ∷ ys) = (y.object ≡ x.object) × Rel x.ended y.ended × AreThreads Rel xs ys

module _ (Rel : Bool → Bool → Type 0) (relation : IsRelation Rel) where
  threads_itself : (xs : List Thread) → AreThreads Rel xs xs
  threads_itself [] = tt
  threads_itself (x ∷ xs) = (refl, relation.same x.ended x.ended refl, threads_itself xs)

  pub threads_started : ((b : Bool) → Rel true b) → (xs : List Thread) (r : ℕ) → AreThreads Rel xs (xs ++ new_thread (Some r) ∷ [])
  threads_started starts [] r = (starts, refl, tt)
  threads_started starts (x ∷ xs) r = (refl, relation.same x.ended x.ended refl, threads_started starts xs r)

  threads_written : (xs ys : List Thread) (t : ℕ) (was now : Thread) → AreThreads Rel xs ys → slice_get xs t ≡ Some was → now.object ≡ was.object → Rel was.ended now.ended → AreThreads Rel xs (slice_set ys t now)
  threads_written [] ys t was now are at object ended = absurd (none-some was at)
  threads_written (x ∷ xs) [] t was now are at object ended = absurd are
  threads_written (x ∷ xs) (y ∷ ys) zero was now are at object ended =
      let is = same_Some x was at in
      (object ∙ sym (ap (λ (w : Thread). w.object) is), subst (λ (w : Thread). Rel w.ended now.ended) (sym is) ended, are.2)
  threads_written (x ∷ xs) (y ∷ ys) (suc t) was now are at object ended = (are.0, are.1, threads_written xs ys t was now are.2 at object ended)

  ended_in : (xs ys : List Thread) (v : ℕ) → AreThreads Rel xs ys → Rel (is_over (slice_get xs v)) (is_over (slice_get ys v))
  ended_in [] [] v are = relation.same false false refl
  ended_in [] (y ∷ ys) zero are = relation.same false y.ended are.1
  ended_in [] (y ∷ ys) (suc v) are = ended_in [] ys v are.2
  ended_in (x ∷ xs) [] v are = absurd are
  ended_in (x ∷ xs) (y ∷ ys) zero are = are.1
  ended_in (x ∷ xs) (y ∷ ys) (suc v) are = ended_in xs ys v are.2

  module _ (before after : List Thread) (all : AreThreads Rel before after) (r : ℕ) where
    join_either : (b : Bool) (k : ℕ) (o p : Option ℕ) → Rel (may_join before o) (may_join after p) → Rel (may_join before (cond b (Some k) o)) (may_join after (cond b (Some k) p))
    join_either true k o p is = ended_in before after k all
    join_either false k o p is = is

    joins_from : (k : ℕ) (xs ys : List Thread) → AreThreads Rel xs ys → Rel (may_join before (position_from (λ (thread : Thread). same_object thread.object (Some r)) k xs)) (may_join after (position_from (λ (thread : Thread). same_object thread.object (Some r)) k ys))
    joins_from k [] [] are = relation.same true true refl
    joins_from k [] (y ∷ ys) are = are.0 _
    joins_from k (x ∷ xs) [] are = absurd are
    joins_from k (x ∷ xs) (y ∷ ys) are =
        let test = λ (thread : Thread). same_object thread.object (Some r) in
        subst (λ (o : Option ℕ). Rel (may_join before (cond (same_object x.object (Some r)) (Some k) (position_from test (k + 1) xs))) (may_join after (cond (same_object o (Some r)) (Some k) (position_from test (k + 1) ys)))) (sym are.0)
        (join_either (same_object x.object (Some r)) k (position_from test (k + 1) xs) (position_from test (k + 1) ys) (joins_from (k + 1) xs ys are.2))

    joins_of : Rel (may_join before (thread_of before r)) (may_join after (thread_of after r))
    joins_of =
        let test = λ (thread : Thread). same_object thread.object (Some r) in
        subst (λ (o : Option ℕ). Rel (may_join before o) (may_join after (thread_of after r))) (sym (position_from-zero test before))
        (subst (λ (o : Option ℕ). Rel (may_join before (position_from test 0 before)) (may_join after o)) (sym (position_from-zero test after))
        (joins_from 0 before after all))

  -- The parts of the state on which the turns of other threads than t depend are related before and after.
  pub record Turned (t : ℕ) (s after : State) : Type 0 where
    pub heap : Extends s.heap after.heap
    pub threads : AreThreads Rel s.threads after.threads
    pub others : (u : ℕ) (thread : Thread) → (u ≡ t → ⊥) → slice_get s.threads u ≡ Some thread → slice_get after.threads u ≡ Some thread
    pub enters : (v r : ℕ) → (v ≡ t → ⊥) → Rel (may_enter v (monitor_at s.monitors r)) (may_enter v (monitor_at after.monitors r))
    pub asked : (v class : ℕ) → (v ≡ t → ⊥) → Asked Rel v (slice_get s.initialisations class) (slice_get after.initialisations class)

  lock_rel : (v : ℕ) (monitors others : List (ℕ × Hold)) → ((r : ℕ) → Rel (may_enter v (monitor_at monitors r)) (may_enter v (monitor_at others r))) → (o : Option ℕ) → Rel (may_lock v monitors o) (may_lock v others o)
  lock_rel v monitors others enters None = relation.same true true refl
  lock_rel v monitors others enters (Some r) = enters r

  -- If the turn of thread u isn't Bad, whether it is enabled is related before and after the turn of thread t. It isn't
  -- Bad after it either, unless it was enabled and the relation allows anything after it.
  pub turned_rel : (program : List Class) (limits : Limits) (start : Start) (s : State) (t u : ℕ) (thread : Thread) → IsKnown program limits start s → (u ≡ t → ⊥) → slice_get s.threads u ≡ Some thread → Turned t s (turn program limits start s t).state → ((key : FieldKey) → IsSized key (value_of key s.statics) (value_of key (turn program limits start s t).state.statics) ⊎ ((b : Bool) → Rel true b)) → ((r : ℕ) → waits_for r (slice_get s.threads u) ≡ true → WaitStays s (turn program limits start s t).state u r) → is_bad (turn program limits start s u).outcome ≡ false → Rel (is_enabled (turn program limits start s u).outcome) (is_enabled (turn program limits start (turn program limits start s t).state u).outcome) × ((is_enabled (turn program limits start s u).outcome ≡ true → ((b : Bool) → Rel true b) → ⊥) → is_bad (turn program limits start (turn program limits start s t).state u).outcome ≡ false)
  turned_rel program limits start s t u thread known other there turned statics waits fit =
      let after = (turn program limits start s t).state in
      let sound = known.sound in
      let sound_after : Sound program limits after = turn_keeps program limits start s t known.classes known.within known.starts sound in
      let kept : slice_get after.threads u ≡ slice_get s.threads u = turned.others u thread other there ∙ sym there in
      let enters : (r : ℕ) → Rel (may_enter u (monitor_at s.monitors r)) (may_enter u (monitor_at after.monitors r)) = λ r. turned.enters u r other in
      let stays : Stays Rel program limits s after u =
      record {
        relation = relation;
        classes = known.classes;
        heap = turned.heap;
        statics = statics;
        sound = sound;
        sound_after = sound_after;
        asked = λ class. turned.asked u class other;
        enters = enters;
        locks = λ name. subst (λ b. Rel b (may_lock u after.monitors (class_reference after.heap name))) (locks_kept u s.heap after.heap s.threads s.monitors s.monitors turned.heap sound.monitors (λ r. refl) name)
            (lock_rel u s.monitors after.monitors enters (class_reference after.heap name));
        joins = joins_of s.threads after.threads turned.threads;
        retakes = λ r is. retakes_by Rel relation.same s after u r sound.monitors sound_after.monitors is kept (enters r) (waits r is);
      } in
      (outcomes_same Rel program limits start s after u stays kept fit, λ tells. outcomes_fit Rel program limits start s after u stays kept tells fit)

  -- A thread other than t is unchanged in a state with thread t changed.
  pub changed_others : (made : State) (t : ℕ) (change : Thread → Thread) (u : ℕ) (thread : Thread) → (u ≡ t → ⊥) → slice_get made.threads u ≡ Some thread → slice_get (with_changed made t change).threads u ≡ Some thread
  changed_others made t change u thread other there = other_is made.threads t u change (slice_get made.threads t) other ∙ there

  pub changed_threads : (s made : State) (t : ℕ) (change : Thread → Thread) (own : Thread) → slice_get s.threads t ≡ Some own → slice_get made.threads t ≡ Some own → AreThreads Rel s.threads made.threads → (change own).object ≡ own.object → Rel own.ended (change own).ended → AreThreads Rel s.threads (with_changed made t change).threads
  changed_threads s made t change own at made_at are object ended =
      subst (λ (o : Option Thread). AreThreads Rel s.threads (changed_to made.threads t change o)) (sym made_at)
      (threads_written s.threads made.threads t own (change own) are at object ended)

  -- A turn that changes nothing but the heap, the monitors and thread t relates the parts on which the others depend.
  pub beside_turned : (s made : State) (t : ℕ) (change : Thread → Thread) (own : Thread) → slice_get s.threads t ≡ Some own → IsBeside s made → (change own).object ≡ own.object → Rel own.ended (change own).ended → ((v r : ℕ) → (v ≡ t → ⊥) → Rel (may_enter v (monitor_at s.monitors r)) (may_enter v (monitor_at made.monitors r))) → made.initialisations ≡ s.initialisations → Turned t s (with_changed made t change)
  beside_turned s made t change own at beside object ended enters initialisations =
      let same : AreThreads Rel s.threads made.threads = subst (AreThreads Rel s.threads) (sym beside.threads) (threads_itself s.threads) in
      record {
        heap = beside.heap;
        threads = changed_threads s made t change own at (ap (λ (ts : List Thread). slice_get ts t) beside.threads ∙ at) same object ended;
        others = λ u thread other there. changed_others made t change u thread other (ap (λ (ts : List Thread). slice_get ts u) beside.threads ∙ there);
        enters = enters;
        asked = λ v class other. subst (λ (is : List Initialisation). Asked Rel v (slice_get s.initialisations class) (slice_get is class)) (sym initialisations) (AsBefore (slice_get s.initialisations class));
      }
