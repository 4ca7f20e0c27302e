-- Numbers that are sorted: which is there twice, and which is missing.
use Rattle.std.proofs.Common.{◌≡◌, ℕ, zero, suc, ◌+◌, ◌<◌, ◌≤◌, ◌==◌, ◌⊎◌, cond, inl, inr, List, [], ◌∷◌, Contains, get_or, length, take, refl, sym, ap, ◌∙◌, subst, arith}
use Rattle.std.proofs.lemmas.Bool.{cases_eq, cases_lt, eq-eqb, ne_eqb}
use Rattle.std.proofs.lemmas.List.{get_or_default, take_all}
use Rattle.std.proofs.lemmas.List.Sums.{count_by_more_no, count_by_more_yes, sum_by-take-le}
use Rattle.std.specs.List.Sorted.{IsNonDecreasing}
use Rattle.exploration_joins.specs.Numbers.{IsFirstMissing, IsFirstTwice, times_in}

-- ---- the least number that is missing

-- The first numbers are less than this one, and all below it are there.
pub record IsNext (numbers : List ℕ) (k next : ℕ) : Type 0 where
  pub small : next ≤ k
  pub there : (other : ℕ) → other < next → Contains numbers other
  pub below : (i : ℕ) → i < k → get_or numbers i 0 < next

module _ (numbers : List ℕ) where
  at_zero : (k d : ℕ) → k < length numbers → get_or numbers k d ≡ get_or numbers k 0
  at_zero k d within = get_or_default numbers k d 0 within

  pub takes : (k next : ℕ) → k < length numbers → IsNext numbers k next → get_or numbers k 0 ≡ next → IsNext numbers (k + 1) (next + 1)
  takes k next within so is =
      record {
        small = omega (arith, so.small);
        there = λ other less. there other (cases_lt other next) less;
        below = λ i less. below i (cases_lt i k) less;
      }
    where
      there : (other : ℕ) → (other < next) ⊎ (next ≤ other) → other < next + 1 → Contains numbers other
      there other (inl lower) less = so.there other lower
      there other (inr upper) less =
          let same : other ≡ next = omega (arith, upper, less) in
          (k, within, at_zero k other within ∙ is ∙ sym same)

      below : (i : ℕ) → (i < k) ⊎ (k ≤ i) → i < k + 1 → get_or numbers i 0 < next + 1
      below i (inl lower) less = let lt = so.below i lower in omega (arith, lt)
      below i (inr upper) less =
          let same : i ≡ k = omega (arith, upper, less) in
          let here : get_or numbers i 0 ≡ next = ap (λ j. get_or numbers j 0) same ∙ is in
          omega (arith, here)

  pub keeps : (k next : ℕ) → IsNext numbers k next → get_or numbers k 0 < next → IsNext numbers (k + 1) next
  keeps k next so lower =
      record {
        small = omega (arith, so.small);
        there = so.there;
        below = λ i less. below i (cases_lt i k) less;
      }
    where
      below : (i : ℕ) → (i < k) ⊎ (k ≤ i) → i < k + 1 → get_or numbers i 0 < next
      below i (inl less) _ = so.below i less
      below i (inr upper) less =
          let same : i ≡ k = omega (arith, upper, less) in
          let here : get_or numbers i 0 ≡ get_or numbers k 0 = ap (λ j. get_or numbers j 0) same in
          omega (arith, here)

  -- The number at a place and all after it are greater than the next one.
  pub passed : (k next : ℕ) → IsNonDecreasing numbers → k < length numbers → next < get_or numbers k 0 → IsNext numbers k next → IsFirstMissing numbers next
  passed k next rise within greater so =
      record { missing = λ there. missing there.0 there.1 there.2 (cases_lt there.0 k); least = so.there }
    where
      missing : (i : ℕ) → i < length numbers → get_or numbers i next ≡ next → (i < k) ⊎ (k ≤ i) → ⊥
      missing i inside is (inl lower) =
          let less = so.below i lower in
          let here = at_zero i next inside in
          omega (arith, less, here, is)
      missing i inside is (inr upper) =
          let more = rise k i 0 upper inside in
          let here = at_zero i next inside in
          omega (arith, more, here, is, greater)

  -- All numbers are less.
  pub ended : (k next : ℕ) → length numbers ≤ k → IsNext numbers k next → IsFirstMissing numbers next
  ended k next all so = record { missing = λ there. missing there.0 there.1 there.2; least = so.there }
    where
      missing : (i : ℕ) → i < length numbers → get_or numbers i next ≡ next → ⊥
      missing i inside is =
          let less = so.below i (omega (arith, all, inside)) in
          let here = at_zero i next inside in
          omega (arith, less, here, is)

  -- ---- the least number that is there twice

  -- The first numbers, before this place, increase.
  abbrev Increase : ℕ → Type 0
  Increase place = (k : ℕ) → k + 1 < place → get_or numbers k 0 < get_or numbers (k + 1) 0

  far : (place : ℕ) → Increase place → (j i : ℕ) → i < j → j < place → get_or numbers i 0 < get_or numbers j 0
  far place up zero i less within = absurd (omega (arith, less))
  far place up (suc j) i less within =
      subst (λ n. get_or numbers i 0 < get_or numbers n 0) next (from (cases_lt i j) (far place up j i))
    where
      next : j + 1 ≡ suc j
      next = omega arith

      step : get_or numbers j 0 < get_or numbers (j + 1) 0
      step = up j (omega (arith, within))

      from : (i < j) ⊎ (j ≤ i) → (i < j → j < place → get_or numbers i 0 < get_or numbers j 0) → get_or numbers i 0 < get_or numbers (j + 1) 0
      from (inl lower) rest = let before = rest lower (omega (arith, within)) in omega (arith, before, step)
      from (inr upper) rest =
          let same : i ≡ j = omega (arith, upper, less) in
          let here : get_or numbers i 0 ≡ get_or numbers j 0 = ap (λ n. get_or numbers n 0) same in
          omega (arith, here, step)

  module _ (number : ℕ) where
    next : (k : ℕ) → times_in (take (suc k) numbers) number ≡ times_in (take (k + 1) numbers) number
    next k = let same : suc k ≡ k + 1 = omega arith in ap (λ n. times_in (take n numbers) number) same

    step_yes : (k : ℕ) → k < length numbers → get_or numbers k 0 ≡ number → times_in (take (suc k) numbers) number ≡ times_in (take k numbers) number + 1
    step_yes k within is = next k ∙ count_by_more_yes (λ other. other == number) numbers k 0 within (eq-eqb (get_or numbers k 0) number is)

    step_no : (k : ℕ) → k < length numbers → (get_or numbers k 0 ≡ number → ⊥) → times_in (take (suc k) numbers) number ≡ times_in (take k numbers) number
    step_no k within not = next k ∙ count_by_more_no (λ other. other == number) numbers k 0 within (ne_eqb (get_or numbers k 0) number not)

    none_before : (k : ℕ) → k ≤ length numbers → ((i : ℕ) → i < k → get_or numbers i 0 ≡ number → ⊥) → times_in (take k numbers) number ≡ 0
    none_before zero within none = refl
    none_before (suc k) within none =
        step_no k (omega (arith, within)) (none k (omega arith)) ∙ none_before k (omega (arith, within)) (λ i less. none i (omega (arith, less)))

    -- The number isn't at these places.
    abbrev AreOthers : ℕ → ℕ → Type 0
    AreOthers place k = (i : ℕ) → place ≤ i → i < k → get_or numbers i 0 ≡ number → ⊥

    none_between : (place k : ℕ) → place ≤ k → k ≤ length numbers → AreOthers place k → times_in (take k numbers) number ≡ times_in (take place numbers) number
    none_between place zero after within none = let same : 0 ≡ place = omega (arith, after) in ap (λ n. times_in (take n numbers) number) same
    none_between place (suc k) after within none = from (cases_lt k place) (none_between place k)
      where
        from : (k < place) ⊎ (place ≤ k) → (place ≤ k → k ≤ length numbers → AreOthers place k → times_in (take k numbers) number ≡ times_in (take place numbers) number)
            → times_in (take (suc k) numbers) number ≡ times_in (take place numbers) number
        from (inl lower) rest = let same : suc k ≡ place = omega (arith, after, lower) in ap (λ n. times_in (take n numbers) number) same
        from (inr upper) rest =
            step_no k (omega (arith, within)) (none k upper (omega arith))
            ∙ rest upper (omega (arith, within)) (λ i more less. none i more (omega (arith, less)))

    at_most_once : (place : ℕ) → place ≤ length numbers → Increase place → times_in (take place numbers) number ≤ 1
    at_most_once zero within up = let none : times_in (take 0 numbers) number ≡ 0 = refl in omega (arith, none)
    at_most_once (suc k) within up = from (cases_eq (get_or numbers k 0) number) (at_most_once k)
      where
        from : (get_or numbers k 0 ≡ number) ⊎ (get_or numbers k 0 ≡ number → ⊥) → (k ≤ length numbers → Increase k → times_in (take k numbers) number ≤ 1)
            → times_in (take (suc k) numbers) number ≤ 1
        from (inl is) rest =
            let more = step_yes k (omega (arith, within)) is in
            let none = none_before k (omega (arith, within)) (λ i less same. let lower = far (suc k) up k i less (omega arith) in omega (arith, lower, is, same)) in
            omega (arith, more, none)
        from (inr not) rest =
            let more = step_no k (omega (arith, within)) not in
            let few = rest (omega (arith, within)) (λ i less. up i (omega (arith, less))) in
            omega (arith, more, few)

  pub once : (place : ℕ) → length numbers ≤ place → Increase place → (number : ℕ) → times_in numbers number ≤ 1
  once place all up number =
      let few = at_most_once number (length numbers) (omega arith) (λ k less. up k (omega (arith, all, less))) in
      subst (λ l. times_in l number ≤ 1) (take_all (length numbers) numbers (omega arith)) few

  pub twice : (q : ℕ) → q + 1 < length numbers → IsNonDecreasing numbers → Increase (q + 1) → get_or numbers (q + 1) 0 ≡ get_or numbers q 0 → IsFirstTwice numbers (get_or numbers (q + 1) 0)
  twice q within rise up same =
      let number : ℕ = get_or numbers (q + 1) 0 in
      let last = count_by_more_yes (λ other. other == number) numbers (q + 1) 0 within (eq-eqb number number refl) in
      let before = count_by_more_yes (λ other. other == number) numbers q 0 (omega (arith, within)) (eq-eqb (get_or numbers q 0) number (sym same)) in
      let all = sum_by-take-le (λ other. cond (other == number) 1 0) numbers (q + 1 + 1) in
      record { twice = omega (arith, last, before, all); least = λ other less. least other less }
    where
      least : (other : ℕ) → other < get_or numbers (q + 1) 0 → times_in numbers other ≤ 1
      least other less =
          let few = at_most_once other (q + 1) (omega (arith, within)) up in
          let rest =
          none_between other (q + 1) (length numbers) (omega (arith, within)) (omega arith)
          (λ i more inside is. let greater = rise (q + 1) i 0 more inside in omega (arith, greater, is, less)) in
          let whole = ap (λ l. times_in l other) (take_all (length numbers) numbers (omega arith)) in
          omega (arith, few, rest, whole)
