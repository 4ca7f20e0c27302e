-- The thread that round robin predicts, which is next if it is enabled.
use Rattle.std.proofs.Common.{◌≡◌, ℕ, zero, suc, ◌+◌, ◌-◌, ◌<◌, ◌≤◌, Bool, true, false, nat_lt, min, ◌==◌, List, Some, None, refl, sym, ◌∙◌, ap, arith}
use Rattle.std.specs.List.{find, range_with_len}
use Rattle.std.proofs.lemmas.Bool.Decides.{nat_tests}
use Rattle.rand_pcg.specs.Lcg.{Lcg}
use Rattle.schedule.specs.Choosers.{Chooser, Listed, RoundRobin, Seeded, after_choice, with_choice, with_choices, enabled_of, next, next_of, round_robin, IsNextFor}
use Rattle.schedule.proofs.Ranges.{next_of_within, range_more, range_none, stays_enabled}

-- The last thread stays the choice while it is enabled and has turns left.
pub same_stays : (p : ℕ → Bool) (count quantum thread turns : ℕ) → turns < quantum → thread < count → p thread ≡ true
    → round_robin quantum thread turns (enabled_of p count) ≡ Some thread
same_stays p count quantum thread turns fewer there enabled =
    let few : nat_lt turns quantum ≡ true = grind (arith, nat_tests) in
    let below : nat_lt thread count ≡ true = grind (arith, nat_tests) in
    rw (stays_enabled p count quantum thread turns, few, below, enabled) refl

-- A thread without turns left is followed by the next enabled one.
moves : (p : ℕ → Bool) (count quantum thread turns : ℕ) → quantum ≤ turns
    → round_robin quantum thread turns (enabled_of p count) ≡ next_of thread (enabled_of p count)
moves p count quantum thread turns had =
    let all : nat_lt turns quantum ≡ false = grind (arith, nat_tests) in
    rw all refl

found : (p : ℕ → Bool) (a b : ℕ) → a < b → p a ≡ true → find p (range_with_len a (b - a)) ≡ Some a
found p a b less enabled = rw (range_more a b less, enabled) refl

found_none : (p : ℕ → Bool) (a b : ℕ) → b ≤ a → find p (range_with_len a (b - a)) ≡ None
found_none p a b most = rw (range_none a b most) refl

-- A thread without turns left is followed by the thread above it, if that is enabled.
pub above : (p : ℕ → Bool) (count quantum thread turns : ℕ) → quantum ≤ turns → thread + 1 < count → p (thread + 1) ≡ true
    → round_robin quantum thread turns (enabled_of p count) ≡ Some (thread + 1)
above p count quantum thread turns had less enabled =
    moves p count quantum thread turns had
    ∙ next_of_within p thread count (omega arith)
    ∙ rw (found p (thread + 1) count less enabled) refl

least_found : (p : ℕ → Bool) (thread : ℕ) → p 0 ≡ true → find p (range_with_len 0 (thread + 1)) ≡ Some 0
least_found p thread enabled =
    let e : thread + 1 - 0 ≡ thread + 1 = omega arith in
    rw e at (found p 0 (thread + 1) (omega arith) enabled)

-- The last of the threads, without turns left, is followed by thread 0, if that is enabled.
pub least : (p : ℕ → Bool) (count quantum thread turns : ℕ) → quantum ≤ turns → thread < count → count ≤ thread + 1 → p 0 ≡ true
    → round_robin quantum thread turns (enabled_of p count) ≡ Some 0
least p count quantum thread turns had there most enabled =
    moves p count quantum thread turns had
    ∙ next_of_within p thread count there
    ∙ rw (found_none p (thread + 1) count most, least_found p thread enabled) refl

-- ---- Consecutive turns

-- The choice of round robin is its next choice, and leaves it with that choice counted.
is_next : (p : ℕ → Bool) (count quantum thread turns chosen : ℕ) → round_robin quantum thread turns (enabled_of p count) ≡ Some chosen
    → next (RoundRobin quantum thread turns) (enabled_of p count) ≡ (Some chosen, with_choice chosen (RoundRobin quantum thread turns))
is_next p count quantum thread turns chosen is = ap (λ o. (o, after_choice quantum thread turns o)) is

-- A thread without turns left is followed by the thread above it for one turn.
pub above_for : (count quantum thread turns : ℕ) → quantum ≤ turns → thread + 1 < count → IsNextFor 1 (thread + 1) count (RoundRobin quantum thread turns)
unfolding IsNextFor
above_for count quantum thread turns had less = (λ p enabled. is_next p count quantum thread turns (thread + 1) (above p count quantum thread turns had less enabled), tt)

-- The last of the threads, without turns left, is followed by thread 0 for one turn.
pub least_for : (count quantum thread turns : ℕ) → quantum ≤ turns → thread < count → count ≤ thread + 1 → IsNextFor 1 0 count (RoundRobin quantum thread turns)
unfolding IsNextFor
least_for count quantum thread turns had there most = (λ p enabled. is_next p count quantum thread turns 0 (least p count quantum thread turns had there most enabled), tt)

-- Counting the last thread adds one turn, up to the quantum.
counted_same : (quantum thread turns : ℕ) → with_choice thread (RoundRobin quantum thread turns) ≡ RoundRobin quantum thread (min quantum (turns + 1))
counted_same quantum thread turns =
    let same : (thread == thread) ≡ true = grind (arith, nat_tests) in
    rw same refl

-- A thread stays the choice for the turns that it has left.
pub stays_for : (times count quantum thread turns : ℕ) → turns + times ≤ quantum → thread < count → IsNextFor times thread count (RoundRobin quantum thread turns)
unfolding IsNextFor
stays_for zero count quantum thread turns fits there = tt
stays_for (suc times) count quantum thread turns fits there =
    let fewer : turns < quantum = omega arith in
    let one_more : min quantum (turns + 1) ≡ turns + 1 = omega arith in
    let after : with_choice thread (RoundRobin quantum thread turns) ≡ RoundRobin quantum thread (turns + 1) =
    counted_same quantum thread turns ∙ ap (RoundRobin quantum thread) one_more in (
      λ p enabled. is_next p count quantum thread turns thread (same_stays p count quantum thread turns fewer there enabled),
      rw after (stays_for times count quantum thread (turns + 1) (omega arith) there),
    )

-- The only thread is next if it is enabled.
only_next : (p : ℕ → Bool) (quantum turns : ℕ) (b : Bool) → nat_lt turns quantum ≡ b → p 0 ≡ true → round_robin quantum 0 turns (enabled_of p 1) ≡ Some 0
only_next p quantum turns true is enabled = same_stays p 1 quantum 0 turns (grind (arith, nat_tests)) (omega arith) enabled
only_next p quantum turns false is enabled = least p 1 quantum 0 turns (grind (arith, nat_tests)) (omega arith) (omega arith) enabled

only_for : (times quantum turns : ℕ) → IsNextFor times 0 1 (RoundRobin quantum 0 turns)
unfolding IsNextFor
only_for zero quantum turns = tt
only_for (suc times) quantum turns = (
  λ p enabled. is_next p 1 quantum 0 turns 0 (only_next p quantum turns (nat_lt turns quantum) refl enabled),
  rw (counted_same quantum 0 turns) (only_for times quantum (min quantum (turns + 1))),
)

pub alone_for : (times count quantum thread turns : ℕ) → thread < count → count ≡ 1 → IsNextFor times thread count (RoundRobin quantum thread turns)
alone_for times count quantum thread turns there one =
    let none : thread ≡ 0 = omega arith in
    rw (none, one) (only_for times quantum turns)

-- ---- Counted turns

-- Turns of the last thread are counted up to the quantum.
pub counted_on : (times quantum thread turns : ℕ) → 1 ≤ times → with_choices times thread (RoundRobin quantum thread turns) ≡ RoundRobin quantum thread (min quantum (turns + times))
unfolding with_choices
counted_on zero quantum thread turns some = let never : ⊥ = omega arith in absurd never
counted_on (suc zero) quantum thread turns some = counted_same quantum thread turns
counted_on (suc (suc times)) quantum thread turns some =
    let more : min quantum (min quantum (turns + 1) + suc times) ≡ min quantum (turns + suc (suc times)) = omega arith in
    ap (with_choices (suc times) thread) (counted_same quantum thread turns)
    ∙ counted_on (suc times) quantum thread (min quantum (turns + 1)) (omega arith)
    ∙ ap (RoundRobin quantum thread) more

pub counted_none : (chosen : ℕ) (chooser : Chooser) → with_choices 0 chosen chooser ≡ chooser
unfolding with_choices
counted_none chosen chooser = refl

-- Counting several turns is counting the first, and then the others.
pub counted_first : (times chosen : ℕ) (chooser : Chooser) → 1 ≤ times → with_choices times chosen chooser ≡ with_choices (times - 1) chosen (with_choice chosen chooser)
unfolding with_choices
counted_first zero chosen chooser some = let never : ⊥ = omega arith in absurd never
counted_first (suc times) chosen chooser some =
    let rest : suc times - 1 ≡ times = omega arith in
    ap (λ n. with_choices n chosen (with_choice chosen chooser)) (sym rest)

-- Counting changes neither a list nor a generator.
pub listed_stays : (times chosen : ℕ) (threads : List ℕ) → with_choices times chosen (Listed threads) ≡ Listed threads
unfolding with_choices
listed_stays zero chosen threads = refl
listed_stays (suc times) chosen threads = listed_stays times chosen threads

pub seeded_stays : (times chosen : ℕ) (generator : Lcg) → with_choices times chosen (Seeded generator) ≡ Seeded generator
unfolding with_choices
seeded_stays zero chosen generator = refl
seeded_stays (suc times) chosen generator = seeded_stays times chosen generator
