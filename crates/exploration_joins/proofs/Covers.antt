-- The parts that cover all, by their numbers.
use Rattle.std.proofs.Common.{◌≡◌, ℕ, zero, suc, ◌<◌, ◌≤◌, ◌==◌, ◌+◌, ◌⊎◌, inl, inr, Bool, true, false, cond, List, [], ◌∷◌, All, Any, Contains, MatchBool, MatchOption, Option, Some, None, filter, get_or, is_some, length, map, nat_le, refl, sym, ap, ◌∙◌, subst, arith, slice_get}
use Rattle.std.proofs.lemmas.Bool.{cases_lt, false≢true, le-leb, lt-leb}
use Rattle.std.proofs.lemmas.List.Folds.{fold-map}
use Rattle.std.proofs.lemmas.List.Sorted.{Contains-permutation, IsPermutation-sym, sum_by-IsPermutation}
use Rattle.std.specs.List.Sorted.{IsPermutation}
use Rattle.std.specs.String.{string_bytes}
use Rattle.exploration_joins.proofs.Parts.{any_here, any_more}
use Rattle.exploration_joins.specs.Joins.{AreAllCovered, AreCoveredBelow, AreOfOne, IsCoveredPart, IsFirstRepeated, covered_words, covers as found_covers, parts_of}
use Rattle.exploration_joins.specs.declared.found.Found.{Found}
use Rattle.exploration_joins.specs.declared.found.Found.TheVariants as variant
use Rattle.exploration_joins.specs.Numbers.{IsFirstMissing, IsFirstTwice, times_in}
use Rattle.exploration_joins.specs.declared.part.PartText.{PartText}

abbrev number : PartText → ℕ
number part = part.part.index

abbrev covers : PartText → Bool
covers part = found_covers part.found

-- The part has this number, and covers all.
abbrev IsNamed : ℕ → PartText → Type 0
IsNamed index part = (part.part.index ≡ index) × (found_covers part.found ≡ true)

named : (parts : List PartText) (index k : ℕ) → k < length (map number (filter covers parts)) → get_or (map number (filter covers parts)) k index ≡ index → Any (IsNamed index) parts
named [] index k within is = absurd (omega (arith, within))
named (p ∷ ps) index k within is = from (covers p) refl (named ps index) k within is
  where
    from : (b : Bool) → covers p ≡ b
        → ((k : ℕ) → k < length (map number (filter covers ps)) → get_or (map number (filter covers ps)) k index ≡ index → Any (IsNamed index) ps)
        → (k : ℕ) → k < length (map number (cond b (p ∷ filter covers ps) (filter covers ps)))
        → get_or (map number (cond b (p ∷ filter covers ps) (filter covers ps))) k index ≡ index → Any (IsNamed index) (p ∷ ps)
    from true so rest zero within is = any_here (IsNamed index) p ps (is, so)
    from true so rest (suc k) within is = any_more (IsNamed index) p ps (rest k (omega (arith, within)) is)
    from false so rest k within is = any_more (IsNamed index) p ps (rest k within is)

numbered : (parts : List PartText) (index k : ℕ) (x : PartText) → k < length parts → get_or parts k x ≡ x → IsNamed index x → Contains (map number (filter covers parts)) index
numbered [] index k x within is here = absurd (omega (arith, within))
numbered (p ∷ ps) index zero x within is here =
    let so : covers p ≡ true = ap covers is ∙ here.1 in
    let num : number p ≡ index = ap number is ∙ here.0 in
    subst (λ b. Contains (map number (cond b (p ∷ filter covers ps) (filter covers ps))) index) (sym so) (0, omega arith, num)
numbered (p ∷ ps) index (suc k) x within is here = from (covers p) (numbered ps index k x (omega (arith, within)) is here)
  where
    from : (b : Bool) → Contains (map number (filter covers ps)) index → Contains (map number (cond b (p ∷ filter covers ps) (filter covers ps))) index
    from true there = let inside = there.1 in (suc there.0, omega (arith, inside), there.2)
    from false there = there

abbrev Answer : List PartText → ℕ → Bool → Type 0
Answer parts count b = MatchBool b (AreCoveredBelow parts count) (AreCoveredBelow parts count → ⊥)

-- Each number below this one is that of a part that covers all, or one of them isn't.
pub are_covered : (parts : List PartText) (numbers sorted shown : List ℕ) (count missing : ℕ) → numbers ≡ map number (filter covers parts) → IsPermutation numbers sorted → shown ≡ sorted → IsFirstMissing shown missing
    → MatchBool (nat_le count missing) (AreCoveredBelow parts count) (AreCoveredBelow parts count → ⊥)
are_covered parts numbers sorted shown count missing are moves same first = from (cases_lt missing count)
  where
    moved : IsPermutation numbers shown
    moved = subst (IsPermutation numbers) (sym same) moves

    back : (index : ℕ) → Contains shown index → Any (IsNamed index) parts
    back index there =
        let here : Contains (map number (filter covers parts)) index = subst (λ l. Contains l index) are (Contains-permutation shown numbers index (IsPermutation-sym numbers shown moved) there) in
        named parts index here.0 here.1 here.2

    gone : missing < count → AreCoveredBelow parts count → ⊥
    gone less all =
        let one = all missing less in
        let here : Contains (map number (filter covers parts)) missing = numbered parts missing one.0 one.1 one.2 one.3 one.4 in
        let there : Contains numbers missing = subst (λ l. Contains l missing) (sym are) here in
        first.missing (Contains-permutation numbers shown missing moved there)

    from : (missing < count) ⊎ (count ≤ missing) → Answer parts count (nat_le count missing)
    from (inl less) = subst (Answer parts count) (sym (lt-leb count missing less)) (gone less)
    from (inr more) = subst (Answer parts count) (sym (le-leb count missing more)) (λ index less. back index (first.least index (omega (arith, less, more))))

-- ---- how often a number is there

times : (parts : List PartText) (numbers sorted : List ℕ) → numbers ≡ map number parts → IsPermutation numbers sorted → (n : ℕ) → times_in sorted n ≡ parts_of n parts
times parts numbers sorted are moved n =
    sum_by-IsPermutation (λ x. cond (x == n) 1 0) numbers sorted moved ∙ ap (λ l. times_in l n) are ∙ fold-map (λ a x. a + cond (x == n) 1 0) number 0 parts

pub repeated : (parts : List PartText) (numbers sorted shown : List ℕ) (r : Option ℕ) → numbers ≡ map number parts → IsPermutation numbers sorted → shown ≡ sorted
    → MatchOption r ((n : ℕ) → times_in shown n ≤ 1) (IsFirstTwice shown) → MatchOption r ((index : ℕ) → parts_of index parts ≤ 1) (IsFirstRepeated parts)
repeated parts numbers sorted shown None are moves same once =
    let moved : IsPermutation numbers shown = subst (IsPermutation numbers) (sym same) moves in
    λ index. subst (λ n. n ≤ 1) (times parts numbers shown are moved index) (once index)
repeated parts numbers sorted shown (Some x) are moves same first =
    let moved : IsPermutation numbers shown = subst (IsPermutation numbers) (sym same) moves in
    record {
      two = subst (λ n. 2 ≤ n) (times parts numbers shown are moved x) first.twice;
      least = λ other less. subst (λ n. n ≤ 1) (times parts numbers shown are moved other) (first.least other less);
    }

-- ---- what is covered

some_words : (one : Found) → found_covers one ≡ true → (words : List ℕ) × (covered_words one ≡ Some words)
some_words (variant.Failing departures words) so = absurd (false≢true so)
some_words (variant.Covered words) so = (string_bytes words, refl)
some_words variant.Stopped so = absurd (false≢true so)

is_covered : (one : Found) (words : List ℕ) → covered_words one ≡ Some words → found_covers one ≡ true
is_covered (variant.Failing departures others) words is = absurd (false≢true (ap is_some is))
is_covered (variant.Covered others) words is = refl
is_covered variant.Stopped words is = absurd (false≢true (ap is_some is))

module _ (parts : List PartText) where
  -- Without a first part there is none.
  pub no_part : slice_get parts 0 ≡ None → (k : ℕ) → k < length parts → ⊥
  no_part none k within = from parts none k within
    where
      from : (ps : List PartText) → slice_get ps 0 ≡ None → (k : ℕ) → k < length ps → ⊥
      from [] none k within = omega (arith, within)
      from (p ∷ ps) none k within = false≢true (ap is_some (sym none))

  pub none_covers : All (λ part. covered_words part.found ≡ None) parts → (words : List ℕ) → AreAllCovered parts words → ⊥
  none_covers none words all =
      let one = all.one in
      let here : covered_words one.1.found ≡ None = ap (λ p. covered_words p.found) (sym one.3) ∙ none one.0 one.1 one.2 in
      false≢true (ap is_some (sym here ∙ one.4))

  pub one_is_missing : (first : PartText) → 0 < length parts → first ≡ get_or parts 0 first → (AreCoveredBelow parts first.part.count → ⊥) → (words : List ℕ) → AreAllCovered parts words → ⊥
  one_is_missing first some is not words all =
      not (λ index less.
      let one = all.each 0 first some index (subst (λ p. index < p.part.count) is less) in
      (one.0, one.1, one.2, one.3, (one.4.number, is_covered one.1.found words one.4.covers)))

  pub all_covered : (first : PartText) (words : List ℕ) → 0 < length parts → first ≡ get_or parts 0 first → AreOfOne parts
      → Any (λ part. covered_words part.found ≡ Some words) parts → AreCoveredBelow parts first.part.count → AreAllCovered parts words
  all_covered first words some is of_one one all = record { one = one; each = λ k d within index less. from index (all index (below k d within index less)) }
    where
      below : (k : ℕ) (d : PartText) → k < length parts → (index : ℕ) → index < (get_or parts k d).part.count → index < first.part.count
      below k d within index less =
          let alike = of_one 0 first some k d within in
          let count = alike.count in
          let here : first.part.count ≡ (get_or parts 0 first).part.count = ap (λ p. p.part.count) is in
          omega (arith, count, here, less)

      from : (index : ℕ) → Any (IsNamed index) parts → Any (IsCoveredPart words index) parts
      from index other =
          let alike = of_one other.0 other.1 other.2 one.0 one.1 one.2 in
          let w = some_words other.1.found other.4.1 in
          let left : covered_words (get_or parts other.0 other.1).found ≡ Some w.0 = ap (λ p. covered_words p.found) other.3 ∙ w.1 in
          let right : covered_words (get_or parts one.0 one.1).found ≡ Some words = ap (λ p. covered_words p.found) one.3 ∙ one.4 in
          let same : w.0 ≡ words = alike.words w.0 words left right in
          (other.0, other.1, other.2, other.3, record { number = other.4.0; covers = w.1 ∙ ap (λ l. Some l) same })
