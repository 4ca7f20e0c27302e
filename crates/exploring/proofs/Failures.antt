-- The counts of failing runs are all 0 just where no run fails.
use Rattle.std.proofs.Common.{Bool, List, Option, Some, [], ap, arith, false, refl, sym, true, ℕ, ◌&&◌, ◌+◌, ◌∙◌, ◌∷◌, ◌≡◌}
use Rattle.std.proofs.lemmas.Bool.Decides.{nat_tests}
use Rattle.std.proofs.lemmas.Iterator.Adapters.{position_from-zero}
use Rattle.std.proofs.lemmas.List.Folds.{sum_by-zero}
use Rattle.std.specs.List.{count_by, list_all, list_any, position, position_from}
use Rattle.std.specs.Prelude.{cond, is_some, nat_eq, nat_lt, not, ◌||◌}
use Rattle.explore_jobs.specs.campaign_jobs.Atomicities.{has_cycle}
use Rattle.explore_jobs.specs.Fates.{fails, is_finished}
use Rattle.explore_jobs.specs.declared.fate.Fate.{Fate}
use Rattle.exploring.specs.Counts.{is_deadlocked, is_running, is_stalled, level_of}
use Rattle.exploring.specs.Explorations.{first_failing}
use Rattle.exploring.specs.Thorough.{counts_failing}
use Rattle.jvms_machine.specs.declared.machine.Status.{Status}
use Rattle.jvms_machine.specs.declared.machine.Status.TheVariants as status

or_or : (a b c d : Bool) → ((a || b) || (c || d)) ≡ ((a || c) || (b || d))
or_or true b c d = refl
or_or false true true d = refl
or_or false true false d = refl
or_or false false c d = refl

some_or : (b : Bool) (i : ℕ) (o : Option ℕ) → is_some (cond b (Some i) o) ≡ (b || is_some o)
some_or true i o = refl
some_or false i o = refl

none_or : (b rest : Bool) → (nat_eq (cond b 1 0) 0 && not rest) ≡ not (b || rest)
none_or true rest = refl
none_or false rest = refl

positive : (n : ℕ) (b : Bool) → nat_eq n 0 ≡ not b → nat_lt 0 n ≡ b
positive n true is = grind (arith, nat_tests)
positive n false is = grind (arith, nat_tests)

more_by : (n m : ℕ) (a b : Bool) → nat_lt 0 n ≡ a → nat_lt 0 m ≡ b → nat_lt 0 (n + m) ≡ (a || b)
more_by n m true b first second = grind (arith, nat_tests)
more_by n m false true first second = grind (arith, nat_tests)
more_by n m false false first second = grind (arith, nat_tests)

module _ {X : Type 0} where
  some_at : (test : X → Bool) (xs : List X) (i : ℕ) → is_some (position_from test i xs) ≡ list_any test xs
  some_at test [] i = refl
  some_at test (x ∷ xs) i = some_or (test x) i (position_from test (i + 1) xs) ∙ ap (λ b. test x || b) (some_at test xs (i + 1))

  -- A position is found just where an element passes.
  pub some_position : (test : X → Bool) (xs : List X) → is_some (position test xs) ≡ list_any test xs
  some_position test xs = ap is_some (position_from-zero test xs) ∙ some_at test xs 0

  none_of : (test : X → Bool) (xs : List X) → list_all (λ x. nat_eq (cond (test x) 1 0) 0) xs ≡ not (list_any test xs)
  none_of test [] = refl
  none_of test (x ∷ xs) = ap (λ b. nat_eq (cond (test x) 1 0) 0 && b) (none_of test xs) ∙ none_or (test x) (list_any test xs)

  -- A count is above 0 just where an element passes.
  pub some_counted : (test : X → Bool) (xs : List X) → nat_lt 0 (count_by test xs) ≡ list_any test xs
  some_counted test xs = positive (count_by test xs) (list_any test xs) (sum_by-zero (λ x. cond (test x) 1 0) xs ∙ none_of test xs)

  either : (p q : X → Bool) (xs : List X) → list_any (λ x. p x || q x) xs ≡ (list_any p xs || list_any q xs)
  either p q [] = refl
  either p q (x ∷ xs) = ap (λ b. (p x || q x) || b) (either p q xs) ∙ or_or (p x) (q x) (list_any p xs) (list_any q xs)

  -- A sum of counts is above 0 just where an element passes one of the tests.
  pub one_counted : (n : ℕ) (p q : X → Bool) (xs : List X) → nat_lt 0 n ≡ list_any p xs → nat_lt 0 (n + count_by q xs) ≡ list_any (λ x. p x || q x) xs
  one_counted n p q xs is = more_by n (count_by q xs) (list_any p xs) (list_any q xs) is (some_counted q xs) ∙ sym (either p q xs)

-- ---- The runs of a level

ways : (s : Status) → not (is_finished s) ≡ (is_deadlocked s || is_stalled s || is_running s)
ways status.Finished = refl
ways status.Deadlocked = refl
ways status.Stalled = refl
ways status.Running = refl

in_turn : (a b c d e : Bool) → (a || b || (c || d || e)) ≡ (a || b || c || d || e)
in_turn true b c d e = refl
in_turn false true c d e = refl
in_turn false false c d e = refl

-- Decides whether a run fails in one of the ways that are counted.
abbrev fails_somehow : Fate → Bool
fails_somehow fate =
    has_cycle fate.result.atomicity || fate.has_uncaught || is_deadlocked fate.result.status || is_stalled fate.result.status
    || is_running fate.result.status

fails_by : (fate : Fate) → fails fate ≡ fails_somehow fate
fails_by fate =
    ap (λ b. has_cycle fate.result.atomicity || fate.has_uncaught || b) (ways fate.result.status)
    ∙ in_turn (has_cycle fate.result.atomicity) fate.has_uncaught (is_deadlocked fate.result.status) (is_stalled fate.result.status) (is_running fate.result.status)

any_alike : {X : Type 0} (p q : X → Bool) → ((x : X) → p x ≡ q x) → (xs : List X) → list_any p xs ≡ list_any q xs
any_alike p q same [] = refl
any_alike p q same (x ∷ xs) = ap (λ b. b || list_any p xs) (same x) ∙ ap (λ b. q x || b) (any_alike p q same xs)

-- A first run that fails is found just where runs that fail are counted.
pub some_failing : (departures : ℕ) (fates : List Fate) → is_some (first_failing fates) ≡ counts_failing (level_of departures fates)
some_failing departures fates =
    let one = some_counted (λ (fate : Fate). has_cycle fate.result.atomicity) fates in
    let two = one_counted _ (λ (fate : Fate). has_cycle fate.result.atomicity) (λ fate. fate.has_uncaught) fates one in
    let three = one_counted _ (λ (fate : Fate). has_cycle fate.result.atomicity || fate.has_uncaught) (λ fate. is_deadlocked fate.result.status) fates two in
    let four = one_counted _ (λ (fate : Fate). has_cycle fate.result.atomicity || fate.has_uncaught || is_deadlocked fate.result.status) (λ fate. is_stalled fate.result.status) fates three in
    let five = one_counted _ (λ (fate : Fate). has_cycle fate.result.atomicity || fate.has_uncaught || is_deadlocked fate.result.status || is_stalled fate.result.status) (λ fate. is_running fate.result.status) fates four in
    some_position fails fates ∙ any_alike fails fails_somehow fails_by fates ∙ sym five
