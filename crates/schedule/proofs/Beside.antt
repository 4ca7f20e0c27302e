-- The thread that round robin predicts beside idle threads, which aren't enabled.
use Rattle.std.proofs.Common.{◌≡◌, ℕ, Bool, true, false, cond, nat_lt, ◌&&◌, List, [], ◌∷◌, Option, None, Some, refl, sym, ◌∙◌, ap}
use Rattle.std.specs.Prelude.{IfSome, slice_get}
use Rattle.std.specs.List.{filter, find, range_with_len}
use Rattle.std.specs.Option.{option_or}
use Rattle.std.proofs.lemmas.Bool.{false≢true}
use Rattle.std.proofs.lemmas.Option.{none-some, same_Some}
use Rattle.schedule.specs.Choosers.{RoundRobin, after_choice, enabled_of, may_be_enabled, next_of, round_robin, stays, IsNextBeside}
use Rattle.schedule.proofs.Ranges.{first-filter, stays_enabled}

-- ---- The choice passes

find_passes : (p test : ℕ → Bool) (xs : List ℕ) (g : ℕ) → find test (filter p xs) ≡ Some g → p g ≡ true
find_passes p test [] g at = absurd (none-some g at)
find_passes p test (x ∷ xs) g at = by_cases (p x) (test x) refl refl at (λ there. find_passes p test xs g there)
  where
    by_cases : (a b : Bool) → p x ≡ a → test x ≡ b → find test (cond a (x ∷ filter p xs) (filter p xs)) ≡ Some g
        → (find test (filter p xs) ≡ Some g → p g ≡ true) → p g ≡ true
    by_cases true true p_is test_is there rest = let same : x ≡ g = same_Some x g (rw test_is at there) in ap p (sym same) ∙ p_is
    by_cases true false p_is test_is there rest = rest (rw test_is at there)
    by_cases false b p_is test_is there rest = rest there

first_passes : (p : ℕ → Bool) (xs : List ℕ) (g : ℕ) → find p xs ≡ Some g → p g ≡ true
first_passes p [] g at = absurd (none-some g at)
first_passes p (x ∷ xs) g at = by_cases (p x) refl at (λ there. first_passes p xs g there)
  where
    by_cases : (a : Bool) → p x ≡ a → cond a (Some x) (find p xs) ≡ Some g → (find p xs ≡ Some g → p g ≡ true) → p g ≡ true
    by_cases true p_is there rest = ap p (sym (same_Some x g there)) ∙ p_is
    by_cases false p_is there rest = rest there

next_passes : (p : ℕ → Bool) (thread : ℕ) (xs : List ℕ) (g : ℕ) → next_of thread (filter p xs) ≡ Some g → p g ≡ true
next_passes p thread xs g at = by_found (find (nat_lt thread) (filter p xs)) refl at
  where
    by_found : (o : Option ℕ) → find (nat_lt thread) (filter p xs) ≡ o → option_or o (slice_get (filter p xs) 0) ≡ Some g → p g ≡ true
    by_found (Some h) found there = find_passes p (nat_lt thread) xs g (found ∙ there)
    by_found None found there = first_passes p xs g (sym (first-filter p xs) ∙ there)

last_of_three : (a b c : Bool) → true ≡ (a && (b && c)) → c ≡ true
last_of_three true true c is = sym is
last_of_three true false c is = absurd (false≢true (sym is))
last_of_three false b c is = absurd (false≢true (sym is))

-- What round robin chooses passes.
choice_passes : (p : ℕ → Bool) (count quantum thread turns g : ℕ) → round_robin quantum thread turns (enabled_of p count) ≡ Some g → p g ≡ true
choice_passes p count quantum thread turns g at = by_stay (stays quantum thread turns (enabled_of p count)) (stays_enabled p count quantum thread turns) at
  where
    by_stay : (b : Bool) → b ≡ (nat_lt turns quantum && (nat_lt thread count && p thread)) → cond b (Some thread) (next_of thread (enabled_of p count)) ≡ Some g → p g ≡ true
    by_stay true is there = ap p (sym (same_Some thread g there)) ∙ last_of_three (nat_lt turns quantum) (nat_lt thread count) (p thread) is
    by_stay false is there = next_passes p thread (range_with_len 0 count) g there

-- ---- The choice among fewer threads

-- Threads that pass, among threads that may.
module _ (p q : ℕ → Bool) (fewer : (t : ℕ) → p t ≡ true → q t ≡ true) where
  -- The first of those that may pass is the first of those that pass, if it passes.
  find_some : (test : ℕ → Bool) (xs : List ℕ) (g : ℕ) → find test (filter q xs) ≡ Some g → p g ≡ true → find test (filter p xs) ≡ Some g
  find_some test [] g at is = at
  find_some test (x ∷ xs) g at is = by_cases (q x) (p x) (test x) refl refl refl at (λ there. find_some test xs g there is)
    where
      by_cases : (a b c : Bool) → q x ≡ a → p x ≡ b → test x ≡ c → find test (cond a (x ∷ filter q xs) (filter q xs)) ≡ Some g
          → (find test (filter q xs) ≡ Some g → find test (filter p xs) ≡ Some g) → find test (cond b (x ∷ filter p xs) (filter p xs)) ≡ Some g
      by_cases true true true q_is p_is test_is there rest = rw test_is (rw test_is at there)
      by_cases true true false q_is p_is test_is there rest = rw test_is (rest (rw test_is at there))
      by_cases true false true q_is p_is test_is there rest = let same : x ≡ g = same_Some x g (rw test_is at there) in absurd (false≢true (sym p_is ∙ ap p same ∙ is))
      by_cases true false false q_is p_is test_is there rest = rest (rw test_is at there)
      by_cases false true c q_is p_is test_is there rest = absurd (false≢true (sym q_is ∙ fewer x p_is))
      by_cases false false c q_is p_is test_is there rest = rest there

  find_none : (test : ℕ → Bool) (xs : List ℕ) → find test (filter q xs) ≡ None → find test (filter p xs) ≡ None
  find_none test [] at = at
  find_none test (x ∷ xs) at = by_cases (q x) (p x) (test x) refl refl refl at (find_none test xs)
    where
      by_cases : (a b c : Bool) → q x ≡ a → p x ≡ b → test x ≡ c → find test (cond a (x ∷ filter q xs) (filter q xs)) ≡ None
          → (find test (filter q xs) ≡ None → find test (filter p xs) ≡ None) → find test (cond b (x ∷ filter p xs) (filter p xs)) ≡ None
      by_cases true true true q_is p_is test_is there rest = rw test_is (rw test_is at there)
      by_cases true true false q_is p_is test_is there rest = rw test_is (rest (rw test_is at there))
      by_cases true false true q_is p_is test_is there rest = absurd (none-some x (sym (rw test_is at there)))
      by_cases true false false q_is p_is test_is there rest = rest (rw test_is at there)
      by_cases false true c q_is p_is test_is there rest = absurd (false≢true (sym q_is ∙ fewer x p_is))
      by_cases false false c q_is p_is test_is there rest = rest there

  all_pass : (xs : List ℕ) (g : ℕ) → find q xs ≡ Some g → p g ≡ true → find p xs ≡ Some g
  all_pass [] g at is = at
  all_pass (x ∷ xs) g at is = by_cases (q x) (p x) refl refl at (λ there. all_pass xs g there is)
    where
      by_cases : (a b : Bool) → q x ≡ a → p x ≡ b → cond a (Some x) (find q xs) ≡ Some g → (find q xs ≡ Some g → find p xs ≡ Some g) → cond b (Some x) (find p xs) ≡ Some g
      by_cases true true q_is p_is there rest = there
      by_cases true false q_is p_is there rest = absurd (false≢true (sym p_is ∙ ap p (same_Some x g there) ∙ is))
      by_cases false true q_is p_is there rest = absurd (false≢true (sym q_is ∙ fewer x p_is))
      by_cases false false q_is p_is there rest = rest there

  first_some : (xs : List ℕ) (g : ℕ) → slice_get (filter q xs) 0 ≡ Some g → p g ≡ true → slice_get (filter p xs) 0 ≡ Some g
  first_some xs g at is = first-filter p xs ∙ all_pass xs g (sym (first-filter q xs) ∙ at) is

  next_some : (thread : ℕ) (xs : List ℕ) (g : ℕ) → next_of thread (filter q xs) ≡ Some g → p g ≡ true → next_of thread (filter p xs) ≡ Some g
  next_some thread xs g at is = by_found (find (nat_lt thread) (filter q xs)) refl at
    where
      by_found : (o : Option ℕ) → find (nat_lt thread) (filter q xs) ≡ o → option_or o (slice_get (filter q xs) 0) ≡ Some g → next_of thread (filter p xs) ≡ Some g
      by_found (Some h) found there = rw (find_some (nat_lt thread) xs g (found ∙ there) is) refl
      by_found None found there = rw (find_none (nat_lt thread) xs found) (first_some xs g there is)

  pub choice_some : (count quantum thread turns g : ℕ) → round_robin quantum thread turns (enabled_of q count) ≡ Some g → p g ≡ true → round_robin quantum thread turns (enabled_of p count) ≡ Some g
  choice_some count quantum thread turns g at is =
      by_cases (nat_lt turns quantum) (nat_lt thread count) (q thread) (p thread) refl refl refl refl
      (stays_enabled q count quantum thread turns) (stays_enabled p count quantum thread turns) at
    where
      Choice : Bool → (ℕ → Bool) → Option ℕ
      Choice b r = cond b (Some thread) (next_of thread (enabled_of r count))

      moves : (a b : Bool) → a ≡ false → b ≡ false → Choice a q ≡ Some g → Choice b p ≡ Some g
      moves a b a_is b_is there = rw b_is (next_some thread (range_with_len 0 count) g (rw a_is at there) is)

      by_cases : (a b c d : Bool) → nat_lt turns quantum ≡ a → nat_lt thread count ≡ b → q thread ≡ c → p thread ≡ d
          → stays quantum thread turns (enabled_of q count) ≡ a && (b && c) → stays quantum thread turns (enabled_of p count) ≡ a && (b && d)
          → Choice (stays quantum thread turns (enabled_of q count)) q ≡ Some g → Choice (stays quantum thread turns (enabled_of p count)) p ≡ Some g
      by_cases true true true true a_is b_is c_is d_is q_stays p_stays there = rw p_stays (rw q_stays at there)
      by_cases true true true false a_is b_is c_is d_is q_stays p_stays there =
          let same : thread ≡ g = same_Some thread g (rw q_stays at there) in absurd (false≢true (sym d_is ∙ ap p same ∙ is))
      by_cases true true false true a_is b_is c_is d_is q_stays p_stays there = absurd (false≢true (sym c_is ∙ fewer thread d_is))
      by_cases true true false false a_is b_is c_is d_is q_stays p_stays there = moves _ _ q_stays p_stays there
      by_cases true false c d a_is b_is c_is d_is q_stays p_stays there = moves _ _ q_stays p_stays there
      by_cases false b c d a_is b_is c_is d_is q_stays p_stays there = moves _ _ q_stays p_stays there

-- What round robin chooses among the threads that may be enabled is its choice if it is enabled.
choice_for : (idle : List Bool) (count quantum thread turns chosen : ℕ) → Some chosen ≡ round_robin quantum thread turns (enabled_of (may_be_enabled idle) count) → IsNextBeside idle chosen count (RoundRobin quantum thread turns)
unfolding IsNextBeside
choice_for idle count quantum thread turns chosen is = λ p beside enabled.
    ap (λ o. (o, after_choice quantum thread turns o)) (choice_some p (may_be_enabled idle) beside count quantum thread turns chosen (sym is) enabled)

-- ---- The prediction

pub choice_beside : (idle : List Bool) (count quantum thread turns : ℕ) (o : Option ℕ) → o ≡ round_robin quantum thread turns (enabled_of (may_be_enabled idle) count)
    → IfSome o (λ t. IsNextBeside idle t count (RoundRobin quantum thread turns))
choice_beside idle count quantum thread turns None is = tt
choice_beside idle count quantum thread turns (Some chosen) is = choice_for idle count quantum thread turns chosen is

-- The predicted thread isn't idle.
pub choice_may : (idle : List Bool) (count quantum thread turns : ℕ) (o : Option ℕ) → o ≡ round_robin quantum thread turns (enabled_of (may_be_enabled idle) count)
    → IfSome o (λ t. may_be_enabled idle t ≡ true)
choice_may idle count quantum thread turns None is = tt
choice_may idle count quantum thread turns (Some chosen) is = choice_passes (may_be_enabled idle) count quantum thread turns chosen (sym is)
