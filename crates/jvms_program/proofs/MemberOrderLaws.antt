-- A binary search in an order of members that rises by name and descriptor finds the first member with these names.
use Rattle.std.proofs.Common.{◌≡◌, ℕ, zero, suc, ◌+◌, ◌-◌, ◌<◌, ◌≤◌, Bool, true, false, ◌&&◌, List, [], ◌∷◌, length, get_or, Ordering, Some, None, refl, sym, ap, ◌∙◌, subst, inl, inr, ⊎_elim, ltb, arith}
use Rattle.std.specs.Prelude.{slice_get, nat_lt, ◌⊎◌}
use Rattle.std.specs.Cmp.{IsTotalOrder}
use Rattle.std.specs.Cmp.Lexicographic.{bytes_decides, slice_cmp, nat_list_cmp_total, texts_ties}
use Rattle.std.specs.List.{list_any, position, range_with_len}
use Rattle.std.specs.List.Sorted.{IsNonDecreasingBy, IsPartitionPoint, IsPermutation, IsSortedBy}
use Rattle.std.specs.Ordering.{is_eq, is_lt, nat_cmp, ordering_index, ordering_reverse, ordering_then}
use Rattle.std.specs.declared.cmp.Ordering.TheVariants.{Less, Equal, Greater}
use Rattle.std.proofs.lemmas.Bool.{cases_Bool, cond-true, cond-false, false≢true, false_from_ne_true, le-ltb, lt-ltb, ltb-true, ltb-false}
use Rattle.std.proofs.lemmas.Cmp.{on_total, then_total}
use Rattle.std.proofs.lemmas.Grind.{get_or_default_zero}
use Rattle.std.proofs.lemmas.List.Folds.{list_any_at, list_any_none}
use Rattle.std.proofs.lemmas.List.FromFn.{length-range_with_len, get_or-range_with_len}
use Rattle.std.proofs.lemmas.List.Sorted.{Contains-permutation, IsPermutation-sym, searchable_from_sorted}
use Rattle.std.proofs.lemmas.List.Sums.{position_or_len_is}
use Rattle.std.proofs.lemmas.Option.{slice_get-get_or, slice_get_cases, slice_get_within}
use Rattle.jvms_file.specs.Names.{same_text}
use Rattle.jvms_program.specs.MemberOrders.{AreDistinct, AreNumbers, IsRising, Names, has_name, is_named, names_at, names_cmp, names_or_empty}

-- ---- The order of names

pub names_cmp_total : IsTotalOrder names_cmp
names_cmp_total = then_total (on_total (λ (n : Names). n.0) nat_list_cmp_total) (on_total (λ (n : Names). n.1) nat_list_cmp_total)

both_equal : (o p : Ordering) → is_eq (ordering_then o p) ≡ (is_eq o && is_eq p)
both_equal Less p = refl
both_equal Equal p = refl
both_equal Greater p = refl

-- Names compare as equal exactly where both texts are the same.
pub same_names : (a : Names) (name descriptor : List ℕ) → is_eq (names_cmp a (name, descriptor)) ≡ (same_text a.0 name && same_text a.1 descriptor)
same_names a name descriptor =
    both_equal (slice_cmp nat_cmp a.0 name) (slice_cmp nat_cmp a.1 descriptor)
    ∙ (λ i. sym (texts_ties a.0 name) i && sym (texts_ties a.1 descriptor) i)

from_is_eq : (o : Ordering) → is_eq o ≡ true → o ≡ Equal
from_is_eq Less h = absurd (false≢true h)
from_is_eq Equal h = refl
from_is_eq Greater h = absurd (false≢true h)

same_is_equal : (a : Names) → names_cmp a a ≡ Equal
same_is_equal a = from_is_eq (names_cmp a a) (same_names a a.0 a.1 ∙ (λ i. (bytes_decides a.0 a.0).1 refl i && (bytes_decides a.1 a.1).1 refl i))

less≢equal : Less ≡ Equal → ⊥
less≢equal h = false≢true (ap is_eq h)

less≢greater : Less ≡ Greater → ⊥
less≢greater h = false≢true (sym (ap is_lt h))

greater≢equal : Greater ≡ Equal → ⊥
greater≢equal h = false≢true (ap is_eq h)

lt_or_le : (i j : ℕ) → (i < j) ⊎ (j ≤ i)
lt_or_le i j = ⊎_elim (λ (h : ltb i j ≡ true). inl (ltb-true i j h)) (λ (h : ltb i j ≡ false). inr (ltb-false i j h)) (cases_Bool (ltb i j))

none_in : {A : Type 0} (p : A → Bool) (items : List A) → length items ≤ 0 → None ≡ position p items
none_in p [] h = refl
none_in p (x ∷ xs) h = absurd (omega (arith, h))

-- ---- The numbers of an order

pub numbered : {A : Type 0} (items : List A) (order : List ℕ) → IsPermutation (range_with_len 0 (length items)) order → AreNumbers items order
numbered items order moved =
    let whole = length-range_with_len 0 (length items) in
    record {
      covers = λ n within.
          Contains-permutation (range_with_len 0 (length items)) order n moved (n, omega (arith, whole, within), get_or-range_with_len 0 (length items) n n within ∙ omega arith);
      within = λ n there.
          let at = Contains-permutation order (range_with_len 0 (length items)) n (IsPermutation-sym (range_with_len 0 (length items)) order moved) there in
          let below : at.0 < length items = omega (arith, whole, at.1) in
          omega (arith, below, at.2, get_or-range_with_len 0 (length items) at.0 n below);
    }

-- ---- A rising order

module _ {A : Type 0} (names : A → Names) (items : List A) (order : List ℕ) (rising : IsRising names items order) where
  abbrev key : ℕ → Names
  key n = names_at names items n

  -- Numbers that aren't neighbours rise too.
  rising_far : (i more : ℕ) → i + more + 1 < length order → names_cmp (key (get_or order i 0)) (key (get_or order (i + more + 1) 0)) ≡ Less
  rising_far i zero within = let e : i + 0 ≡ i = omega arith in rw e (rising.rises i (omega (arith, within)))
  rising_far i (suc more) within =
      let e : i + suc more ≡ i + more + 1 = omega arith in
      rw e (names_cmp_total.trans (key (get_or order i 0)) (key (get_or order (i + more + 1) 0)) (key (get_or order (i + more + 1 + 1) 0)) (rising_far i more (omega (arith, within))) (rising.rises (i + more + 1) (omega (arith, within))))

  rising_from : (i j : ℕ) → i < j → j < length order → names_cmp (key (get_or order i 0)) (key (get_or order j 0)) ≡ Less
  rising_from i j before within =
      let e : i + (j - i - 1) + 1 ≡ j = omega (arith, before) in
      subst (λ (n : ℕ). names_cmp (key (get_or order i 0)) (key (get_or order n 0)) ≡ Less) e (rising_far i (j - i - 1) (omega (arith, before, within)))

  is_sorted : IsSortedBy (λ a b. is_lt (names_cmp (key a) (key b))) order
  is_sorted k d low within =
      let here = get_or_default_zero order k d (omega (arith, within)) in
      let next = get_or_default_zero order (k + 1) d within in
      rw (here, next) (ap is_lt (names_cmp_total.antisymm (key (get_or order (k + 1) 0)) (key (get_or order k 0)) ∙ ap ordering_reverse (rising.rises k within)))

  -- The order is one that a binary search for names can use.
  pub searchable : (sought : Names) → IsNonDecreasingBy (λ n. ordering_index (names_cmp (key n) sought)) order
  searchable sought = searchable_from_sorted names_cmp_total key order sought is_sorted

  -- ---- What a search finds

  -- A member with these names, by its number.
  has_key : (name descriptor : List ℕ) (k : ℕ) (d : A) → k < length items → is_named names name descriptor (get_or items k d) ≡ is_eq (names_cmp (key k) (name, descriptor))
  has_key name descriptor k d within =
      let there : key k ≡ names (get_or items k d) = ap (names_or_empty names) (slice_get-get_or items k d within) in
      rw there (sym (same_names (names (get_or items k d)) name descriptor))

  equal_key : (sought : Names) (n : ℕ) → is_eq (names_cmp (key n) sought) ≡ true → names_cmp (key n) sought ≡ Equal
  equal_key sought n h = from_is_eq (names_cmp (key n) sought) h

  -- A number at another place has other names.
  less_is_not_equal : (sought : Names) (i j : ℕ) → names_cmp (key i) sought ≡ Equal → names_cmp (key j) sought ≡ Equal → names_cmp (key i) (key j) ≡ Less → ⊥
  less_is_not_equal sought i j here there less =
      less≢equal (sym less ∙ names_cmp_total.congr (key i) sought (key j) here ∙ names_cmp_total.antisymm sought (key j) ∙ ap ordering_reverse there)

  one_place : (sought : Names) (i j : ℕ) → i < length order → j < length order
      → names_cmp (key (get_or order i 0)) sought ≡ Equal → names_cmp (key (get_or order j 0)) sought ≡ Equal → i ≡ j
  one_place sought i j i_within j_within here there =
      ⊎_elim
      (λ (before : i < j). absurd (less_is_not_equal sought (get_or order i 0) (get_or order j 0) here there (rising_from i j before j_within)))
      (λ (not_before : j ≤ i).
      ⊎_elim
      (λ (behind : j < i). absurd (less_is_not_equal sought (get_or order j 0) (get_or order i 0) there here (rising_from j i behind i_within)))
      (λ (not_behind : i ≤ j). omega (arith, not_before, not_behind))
      (lt_or_le j i))
      (lt_or_le i j)

  module _ (numbers : AreNumbers items order) (name descriptor : List ℕ) where
    abbrev is_sought : ℕ → Ordering
    is_sought n = names_cmp (key n) (name, descriptor)

    -- Each number has its place in the order.
    place_of : (n : ℕ) → n < length items → (j : ℕ) × (j < length order) × (get_or order j 0 ≡ n)
    place_of n within =
        let at = numbers.covers n within in
        (at.0, at.1, sym (get_or_default_zero order at.0 n at.1) ∙ at.2)

    within_items : (i : ℕ) → i < length order → get_or order i 0 < length items
    within_items i within = numbers.within (get_or order i 0) (i, within, get_or_default_zero order i (get_or order i 0) within)

    others_differ : (n : ℕ) (d : A) → n < length items → is_sought n ≡ Equal → (k : ℕ) → k < n → is_named names name descriptor (get_or items k d) ≡ false
    others_differ n d below holds k before =
        let within : k < length items = omega (arith, before, below) in
        false_from_ne_true (is_named names name descriptor (get_or items k d))
        (λ named.
        let at = place_of k within in
        let here = place_of n below in
        let equal = equal_key (name, descriptor) k (sym (has_key name descriptor k d within) ∙ named) in
        let same = one_place (name, descriptor) at.0 here.0 at.1 here.1 (rw at.2 equal) (rw here.2 holds) in
        let one : k ≡ n = sym at.2 ∙ ap (λ (j : ℕ). get_or order j 0) same ∙ here.2 in
        absurd (omega (arith, before, one)))

    found_at : (n : ℕ) (d : A) → n < length items → is_sought n ≡ Equal → Some n ≡ position (is_named names name descriptor) items
    found_at n d below holds =
        let named = has_key name descriptor n d below ∙ ap is_eq holds in
        let at = position_or_len_is (is_named names name descriptor) items n d (omega (arith, below)) (others_differ n d below holds) (λ _. named) in
        rw at (sym (cond-true (nat_lt n (length items)) (Some n) None (lt-ltb n (length items) below)))

    pub found : (i : ℕ) → i < length order → is_sought (get_or order i 0) ≡ Equal → Some (get_or order i 0) ≡ position (is_named names name descriptor) items
    found i within holds =
        let n = get_or order i 0 in
        let below = within_items i within in
        ⊎_elim
        (λ (at : (x : A) × (n < length items) × (slice_get items n ≡ Some x) × (get_or items n x ≡ x)). found_at n at.0 below holds)
        (λ (past : (length items ≤ n) × (slice_get items n ≡ None)). absurd (omega (arith, below, past.0)))
        (slice_get_cases items n).1

    none_named : (i : ℕ) → IsPartitionPoint (λ n. is_sought n ≡ Less) (λ n. is_sought n ≡ Greater) order i → (k : ℕ) → k < length items → is_sought k ≡ Equal → ⊥
    none_named i parted k within equal =
        let at = place_of k within in
        ⊎_elim
        (λ (before : at.0 < i). less≢equal (sym (parted.0 at.0 0 (omega arith) before) ∙ (rw at.2 equal)))
        (λ (behind : i ≤ at.0). greater≢equal (sym (parted.1 at.0 0 behind at.1) ∙ (rw at.2 equal)))
        (lt_or_le at.0 i)

    absent_from : (d : A) → ((k : ℕ) → k < length items → is_sought k ≡ Equal → ⊥) → None ≡ position (is_named names name descriptor) items
    absent_from d none =
        let at = position_or_len_is (is_named names name descriptor) items (length items) d (omega arith)
        (λ k within. false_from_ne_true (is_named names name descriptor (get_or items k d)) (λ named. none k within (equal_key (name, descriptor) k (sym (has_key name descriptor k d within) ∙ named))))
        (λ past. absurd (omega (arith, past))) in
        rw at (sym (cond-false (nat_lt (length items) (length items)) (Some (length items)) None (le-ltb (length items) (length items) (omega arith))))

    pub absent : (i : ℕ) → IsPartitionPoint (λ n. is_sought n ≡ Less) (λ n. is_sought n ≡ Greater) order i → None ≡ position (is_named names name descriptor) items
    absent i parted =
        ⊎_elim
        (λ (at : (x : A) × (0 < length items) × (slice_get items 0 ≡ Some x) × (get_or items 0 x ≡ x)). absent_from at.0 (none_named i parted))
        (λ (past : (length items ≤ 0) × (slice_get items 0 ≡ None)).
        none_in (is_named names name descriptor) items past.0)
        (slice_get_cases items 0).1

  -- In a rising order no two members have the same names.
  pub distinct : AreNumbers items order → AreDistinct names items
  distinct numbers = record {
    first = λ n m at.
        let within = slice_get_within items n m at in
        let there : names m ≡ key n = ap (names_or_empty names) (sym at) in
        let place = place_of numbers (names m).0 (names m).1 n within in
        let same : names_cmp (key n) (names m) ≡ Equal = rw there (same_is_equal (key n)) in
        let found_there = found numbers (names m).0 (names m).1 place.0 place.1 (rw place.2 same) in
        sym found_there ∙ ap (λ (k : ℕ). Some k) place.2;
  }

  -- ---- Whether a member has a name

  first_not_behind : (o p : Ordering) → ordering_then o p ≡ Less → is_lt (ordering_reverse o) ≡ false
  first_not_behind Less p h = refl
  first_not_behind Equal p h = refl
  first_not_behind Greater p h = absurd (less≢greater (sym h))

  names_sorted : IsSortedBy (λ a b. is_lt (slice_cmp nat_cmp (key a).0 (key b).0)) order
  names_sorted k d low within =
      let here = get_or_default_zero order k d (omega (arith, within)) in
      let next = get_or_default_zero order (k + 1) d within in
      let a = key (get_or order k 0) in
      let b = key (get_or order (k + 1) 0) in
      rw (here, next)
      (ap is_lt (nat_list_cmp_total.antisymm b.0 a.0) ∙ first_not_behind (slice_cmp nat_cmp a.0 b.0) (slice_cmp nat_cmp a.1 b.1) (rising.rises k within))

  -- The order is one that a binary search for a name can use.
  pub name_searchable : (name : List ℕ) → IsNonDecreasingBy (λ n. ordering_index (slice_cmp nat_cmp (key n).0 name)) order
  name_searchable name = searchable_from_sorted nat_list_cmp_total (λ (n : ℕ). (key n).0) order name names_sorted

  module _ (numbers : AreNumbers items order) (name : List ℕ) where
    name_at : (k : ℕ) (d : A) → k < length items → has_name names name (get_or items k d) ≡ is_eq (slice_cmp nat_cmp (key k).0 name)
    name_at k d within =
        let there : key k ≡ names (get_or items k d) = ap (names_or_empty names) (slice_get-get_or items k d within) in
        rw there (texts_ties (names (get_or items k d)).0 name)

    pub name_found : (i : ℕ) → i < length order → slice_cmp nat_cmp (key (get_or order i 0)).0 name ≡ Equal → true ≡ list_any (has_name names name) items
    name_found i within holds =
        let n = get_or order i 0 in
        let below : n < length items = numbers.within n (i, within, get_or_default_zero order i n within) in
        ⊎_elim
        (λ (at : (x : A) × (n < length items) × (slice_get items n ≡ Some x) × (get_or items n x ≡ x)).
        sym (list_any_at (has_name names name) items n at.0 below (name_at n at.0 below ∙ ap is_eq holds)))
        (λ (past : (length items ≤ n) × (slice_get items n ≡ None)). absurd (omega (arith, below, past.0)))
        (slice_get_cases items n).1

    pub name_absent : (i : ℕ) → IsPartitionPoint (λ n. slice_cmp nat_cmp (key n).0 name ≡ Less) (λ n. slice_cmp nat_cmp (key n).0 name ≡ Greater) order i → false ≡ list_any (has_name names name) items
    name_absent i parted =
        sym (list_any_none (has_name names name) items
        (λ k d within.
        let at = numbers.covers k within in
        let same : get_or order at.0 0 ≡ k = sym (get_or_default_zero order at.0 k at.1) ∙ at.2 in
        rw (name_at k d within)
        (⊎_elim
        (λ (before : at.0 < i). ap is_eq (subst (λ (n : ℕ). slice_cmp nat_cmp (key n).0 name ≡ Less) same (parted.0 at.0 0 (omega arith) before)))
        (λ (behind : i ≤ at.0). ap is_eq (subst (λ (n : ℕ). slice_cmp nat_cmp (key n).0 name ≡ Greater) same (parted.1 at.0 0 behind at.1)))
        (lt_or_le at.0 i))))
