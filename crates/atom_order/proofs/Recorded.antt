-- The recorded ranks of live transactions.
use Rattle.std.proofs.Common.{◌≡◌, ◌≢◌, ℕ, ◌+◌, ◌-◌, ◌<◌, ◌≤◌, Bool, true, false, not, cond, ◌==◌, ◌⊎◌, inl, inr, List, [], ◌∷◌, ◌++◌, length, take, drop, get_or, set, refl, sym, ap, subst, ◌∙◌, arith, length-append}
use Rattle.std.proofs.lemmas.Bool.{cases_Bool, cases_eq, cases_lt}
use Rattle.std.proofs.lemmas.List.{get_or-set_same, get_or-set_other, length-set, length_push, get_or_append_left, get_or_push}
use Rattle.std.specs.List.{filter}
use Rattle.velodrome.specs.Cycles.{IsIn}
use Rattle.atom_order.specs.Reaching.{is_among}
use Rattle.atom_order.specs.declared.slots.Slot.{Slot}
use Rattle.atom_order.specs.Slots.{numbers_of, live_of, IsRank, AreRanks}
use Rattle.atom_order.proofs.Lists.{at_in}
use Rattle.atom_order.proofs.Members.{in_from_among}
use Rattle.atom_order.proofs.Pairs.{Pairs, Differ}
use Rattle.atom_order.proofs.Gaps.{HaveOneRank, in_rank, live_again, live_append, live_apart, live_cut, live_one, live_vacated}

module _ (numbers ranks : List ℕ) (count : ℕ) (are : AreRanks numbers ranks count) where
  pub recorded : (x k : ℕ) → IsRank numbers x k → get_or ranks x 0 ≡ k
  recorded x k r = ap (λ v. get_or ranks v 0) (sym r.here) ∙ are.at k r.within (λ same. r.lives (sym r.here ∙ same))

  pub one_rank : HaveOneRank numbers
  one_rank x i j r q = sym (recorded x i r) ∙ recorded x j q

  pub known_at : (x k : ℕ) → IsRank numbers x k → x < length ranks
  known_at x k r = subst (λ v. v < length ranks) r.here (are.known k r.within)

  -- A live transaction is found at its rank.
  pub not_ranked : (x : ℕ) → (x ≢ 0 → x < length ranks → get_or ranks x 0 < length numbers → get_or numbers (get_or ranks x 0) 0 ≡ x → ⊥) → is_among x (live_of numbers) ≡ false
  not_ranked x none = elim (cases_Bool (is_among x (live_of numbers))) [
    | inl is ↦
        let some = in_rank numbers x (in_from_among x (live_of numbers) is) in
        let at = recorded x some.0 some.1 in
        absurd (none some.1.lives (known_at x some.0 some.1) (subst (λ i. i < length numbers) (sym at) some.1.within) (ap (λ i. get_or numbers i 0) at ∙ some.1.here))
    | inr is ↦ is
  ]

  -- The next transaction gets a slot.
  pub pushed : AreRanks (numbers ++ length ranks ∷ []) (ranks ++ length numbers ∷ []) (count + 1)
  pushed = record {
    some = omega (arith, length_push ranks (length numbers));
    known = λ i less. known i less (cases_lt i (length numbers));
    at = λ i less lives. at i less lives (cases_lt i (length numbers));
    counted =
        let some = are.some in
        let one = ap length (live_append numbers (length ranks ∷ []) ∙ ap (λ l. live_of numbers ++ l) (live_one (length ranks) [] (λ e. absurd (omega arith)))) in
        let two = length_push (live_of numbers) (length ranks) in
        let three = are.counted in
        omega arith;
  }
    where
      known : (i : ℕ) → i < length (numbers ++ length ranks ∷ []) → (i < length numbers) ⊎ (length numbers ≤ i) → get_or (numbers ++ length ranks ∷ []) i 0 < length (ranks ++ length numbers ∷ [])
      known i less (inl h) =
          let old = are.known i h in
          let here = get_or_append_left numbers (length ranks ∷ []) 0 i h in
          let long = length_push ranks (length numbers) in
          omega arith
      known i less (inr h) =
          let long = length_push numbers (length ranks) in
          let last : length numbers ≡ i = omega arith in
          let here = get_or_push numbers (length ranks) 0 i last in
          let more = length_push ranks (length numbers) in
          omega arith

      at : (i : ℕ) → i < length (numbers ++ length ranks ∷ []) → get_or (numbers ++ length ranks ∷ []) i 0 ≢ 0 → (i < length numbers) ⊎ (length numbers ≤ i)
          → get_or (ranks ++ length numbers ∷ []) (get_or (numbers ++ length ranks ∷ []) i 0) 0 ≡ i
      at i less lives (inl h) =
          let here = get_or_append_left numbers (length ranks ∷ []) 0 i h in
          ap (λ v. get_or (ranks ++ length numbers ∷ []) v 0) here ∙ get_or_append_left ranks (length numbers ∷ []) 0 (get_or numbers i 0) (are.known i h)
          ∙ are.at i h (λ e. lives (here ∙ e))
      at i less lives (inr h) =
          let long = length_push numbers (length ranks) in
          let last : length numbers ≡ i = omega arith in
          ap (λ v. get_or (ranks ++ length numbers ∷ []) v 0) (get_or_push numbers (length ranks) 0 i last) ∙ get_or_push ranks (length numbers) 0 (length ranks) refl ∙ last

  -- The next transaction gets no slot.
  pub skipped : AreRanks numbers (ranks ++ 0 ∷ []) count
  skipped = record {
    some = omega (arith, length_push ranks 0);
    known = λ i less. let old = are.known i less in let long = length_push ranks 0 in omega arith;
    at = λ i less lives. get_or_append_left ranks (0 ∷ []) 0 (get_or numbers i 0) (are.known i less) ∙ are.at i less lives;
    counted = are.counted;
  }

-- ---- A live transaction loses its slot, or moves after the others

module _ (numbers ranks : List ℕ) (count : ℕ) (are : AreRanks numbers ranks count) (x k : ℕ) (r : IsRank numbers x k) where
  front : List ℕ
  front = live_of (take k numbers)

  behind : List ℕ
  behind = live_of (drop (k + 1) numbers)

  pub some_live : 0 < count
  some_live =
      let long = ap length (live_cut numbers x k r) in
      let parts = length-append (live_of (take k numbers)) (x ∷ live_of (drop (k + 1) numbers)) in
      let counted = are.counted in
      omega arith

  fewer : length (live_of (set numbers k 0)) + 1 ≡ count
  fewer =
      let one = ap length (live_cut numbers x k r) in
      let two = ap length (live_vacated numbers k r.within) in
      let three = length-append (live_of (take k numbers)) (x ∷ live_of (drop (k + 1) numbers)) in
      let four = length-append (live_of (take k numbers)) (live_of (drop (k + 1) numbers)) in
      let counted = are.counted in
      omega arith

  known_now : (i : ℕ) → i < length numbers → get_or (set numbers k 0) i 0 < length ranks
  known_now i less = elim (cases_eq i k) [
    | inl same ↦ subst (λ v. v < length ranks) (sym (ap (λ j. get_or (set numbers k 0) j 0) same ∙ get_or-set_same numbers k 0 0 r.within)) are.some
    | inr other ↦ subst (λ v. v < length ranks) (sym (get_or-set_other numbers k i 0 0 other)) (are.known i less)
  ]

  other_now : (i : ℕ) → get_or (set numbers k 0) i 0 ≢ 0 → i ≢ k
  other_now i lives same = lives (ap (λ j. get_or (set numbers k 0) j 0) same ∙ get_or-set_same numbers k 0 0 r.within)

  pub vacated : AreRanks (set numbers k 0) ranks (count - 1)
  vacated = record {
    some = are.some;
    known = λ i less. known_now i (let long = length-set numbers k 0 in omega arith);
    at = λ i less lives.
        let here = get_or-set_other numbers k i 0 0 (other_now i lives) in
        ap (λ v. get_or ranks v 0) here ∙ are.at i (let long = length-set numbers k 0 in omega arith) (λ e. lives (here ∙ e));
    counted = let less = fewer in omega arith;
  }

  pub moved_back : AreRanks (set numbers k 0 ++ x ∷ []) (set ranks x (length numbers)) count
  moved_back = record {
    some = let long = length-set ranks x (length numbers) in let some = are.some in omega arith;
    known = λ i less. known i less (cases_lt i (length numbers));
    at = λ i less lives. at i less lives (cases_lt i (length numbers));
    counted =
        let one = ap length (live_append (set numbers k 0) (x ∷ []) ∙ ap (λ l. live_of (set numbers k 0) ++ l) (live_one x [] r.lives)) in
        let two = length_push (live_of (set numbers k 0)) x in
        let less = fewer in
        omega arith;
  }
    where
      front_at : (i : ℕ) → i < length numbers → get_or (set numbers k 0 ++ x ∷ []) i 0 ≡ get_or (set numbers k 0) i 0
      front_at i h = get_or_append_left (set numbers k 0) (x ∷ []) 0 i (let long = length-set numbers k 0 in omega arith)

      last_at : (i : ℕ) → length numbers ≡ i → get_or (set numbers k 0 ++ x ∷ []) i 0 ≡ x
      last_at i last = get_or_push (set numbers k 0) x 0 i (length-set numbers k 0 ∙ last)

      long_now : (i : ℕ) → i < length (set numbers k 0 ++ x ∷ []) → length numbers ≤ i → length numbers ≡ i
      long_now i less far = let one = length_push (set numbers k 0) x in let two = length-set numbers k 0 in omega arith

      known : (i : ℕ) → i < length (set numbers k 0 ++ x ∷ []) → (i < length numbers) ⊎ (length numbers ≤ i) → get_or (set numbers k 0 ++ x ∷ []) i 0 < length (set ranks x (length numbers))
      known i less (inl h) = let old = known_now i h in let here = front_at i h in let long = length-set ranks x (length numbers) in omega arith
      known i less (inr h) =
          let old = known_at numbers ranks count are x k r in
          let here = last_at i (long_now i less h) in
          let long = length-set ranks x (length numbers) in
          omega arith

      at : (i : ℕ) → i < length (set numbers k 0 ++ x ∷ []) → get_or (set numbers k 0 ++ x ∷ []) i 0 ≢ 0 → (i < length numbers) ⊎ (length numbers ≤ i)
          → get_or (set ranks x (length numbers)) (get_or (set numbers k 0 ++ x ∷ []) i 0) 0 ≡ i
      at i less lives (inl h) =
          let other = other_now i (λ e. lives (front_at i h ∙ e)) in
          let here = front_at i h ∙ get_or-set_other numbers k i 0 0 other in
          let apart : get_or numbers i 0 ≢ x = λ same. other (one_rank numbers ranks count are x i k (record { within = h; here = same; lives = r.lives }) r) in
          ap (λ v. get_or (set ranks x (length numbers)) v 0) here ∙ get_or-set_other ranks x (get_or numbers i 0) (length numbers) 0 apart
          ∙ are.at i h (λ e. lives (here ∙ e))
      at i less lives (inr h) =
          ap (λ v. get_or (set ranks x (length numbers)) v 0) (last_at i (long_now i less h))
          ∙ get_or-set_same ranks x (length numbers) 0 (known_at numbers ranks count are x k r) ∙ long_now i less h

-- ---- Gaps are removed

module _ (slots : List Slot) (ranks : List ℕ) (count : ℕ) (are : AreRanks (numbers_of slots) ranks count) where
  pub apart_live : Pairs Differ (live_of (numbers_of slots))
  apart_live = live_apart (numbers_of slots) (one_rank (numbers_of slots) ranks count are)

  pub known_live : (x : ℕ) → IsIn x (live_of (numbers_of slots)) → x < length ranks
  known_live x h = let r = in_rank (numbers_of slots) x h in known_at (numbers_of slots) ranks count are x r.0 r.1

  pub tidied : (now : List ℕ) → length now ≡ length ranks → ((i : ℕ) → i < length (live_of (numbers_of slots)) → get_or now (get_or (live_of (numbers_of slots)) i 0) 0 ≡ i)
      → AreRanks (live_of (numbers_of slots)) now count
  tidied now long at = record {
    some = let some = are.some in omega arith;
    known = λ i less. let known = known_live (get_or (live_of (numbers_of slots)) i 0) (at_in 0 (live_of (numbers_of slots)) i less) in omega arith;
    at = λ i less _. at i less;
    counted = are.counted ∙ ap length (sym (live_again (numbers_of slots)));
  }

-- The slots that aren't gaps have the live transactions.
pub numbers_tidied : (slots : List Slot) → numbers_of (filter (λ (s : Slot). not (s.transaction == 0)) slots) ≡ live_of (numbers_of slots)
numbers_tidied [] = refl
numbers_tidied (s ∷ slots) = by (numbers_tidied slots) (s.transaction == 0)
  where
    by : numbers_of (filter (λ (n : Slot). not (n.transaction == 0)) slots) ≡ live_of (numbers_of slots) → (b : Bool)
        → numbers_of (cond (not b) (s ∷ filter (λ (n : Slot). not (n.transaction == 0)) slots) (filter (λ (n : Slot). not (n.transaction == 0)) slots))
        ≡ cond (not b) (s.transaction ∷ live_of (numbers_of slots)) (live_of (numbers_of slots))
    by more true = more
    by more false = ap (λ l. s.transaction ∷ l) more
