-- Slots that become gaps, or move after the others.
use Rattle.std.proofs.Common.{◌≡◌, ◌≢◌, ℕ, ◌+◌, ◌<◌, ◌≤◌, Bool, true, false, not, ◌||◌, ◌&&◌, ◌==◌, inl, inr, List, [], ◌∷◌, ◌++◌, length, take, drop, get_or, set, refl, sym, ap, subst, ◌∙◌}
use Rattle.std.proofs.lemmas.Bool.{cases_Bool, eqb-false, ne_eqb, both_ways}
use Rattle.std.proofs.lemmas.List.{append_assoc, take_more, take_all, take-append-drop}
use Rattle.std.specs.List.{IsDistinct, filter}
use Rattle.velodrome.specs.Cycles.{IsIn}
use Rattle.atom_order.specs.declared.slots.Slot.{Slot}
use Rattle.atom_order.specs.Keeping.{sides}
use Rattle.atom_order.specs.Reaching.{is_among, ArePart}
use Rattle.atom_order.specs.Slots.{gap}
use Rattle.atom_order.proofs.Lists.{at_in, set_in, cut_at, filter_append, filter_all, filter_same, filter_twice}
use Rattle.atom_order.proofs.Members.{in_left, in_cases, in_filter, filter_in, among_from_in, in_from_among}
use Rattle.atom_order.proofs.Pairs.{Pairs, Differ, distinct_pairs, pairs_across, pairs_filter}

-- ---- Slots that were there

pub set_old : (slots : List Slot) (k : ℕ) (v s : Slot) → v.transaction ≡ 0 → IsIn s (set slots k v) → s.transaction ≢ 0 → IsIn s slots
set_old slots k v s is h lives = elim (set_in gap slots k v s h) [
  | inl same ↦ absurd (lives (ap (λ (n : Slot). n.transaction) same ∙ is))
  | inr at ↦ subst (λ (n : Slot). IsIn n slots) at.3 (at_in gap slots at.0 at.1)
]

pub back_old : (slots : List Slot) (k : ℕ) (v r s : Slot) → v.transaction ≡ 0 → k < length slots → r ≡ get_or slots k r → IsIn s (set slots k v ++ r ∷ []) → s.transaction ≢ 0 → IsIn s slots
back_old slots k v r s is less old h lives = elim (in_cases s (set slots k v) (r ∷ []) h) [
  | inl g ↦ set_old slots k v s is g lives
  | inr g ↦ elim g [
    | inl same ↦ subst (λ (n : Slot). IsIn n slots) (sym (same ∙ old)) (at_in r slots k less)
    | inr none ↦ absurd none
  ]
]

-- ---- One more of a list

pub among_push : (y x : ℕ) (xs : List ℕ) → is_among y (xs ++ x ∷ []) ≡ (is_among y xs || (y == x))
among_push y x [] = last (y == x)
  where
    last : (b : Bool) → (b || false) ≡ (false || b)
    last true = refl
    last false = refl
among_push y x (z ∷ xs) = ap (λ b. (y == z) || b) (among_push y x xs) ∙ turned (y == z) (is_among y xs) (y == x)
  where
    turned : (a b c : Bool) → (a || (b || c)) ≡ ((a || b) || c)
    turned true b c = refl
    turned false b c = refl

neither : (a b : Bool) → (not a && not b) ≡ not (a || b)
neither true b = refl
neither false b = refl

module _ (gone live : List ℕ) (i : ℕ) (less : i < length gone) where
  abbrev x : ℕ
  x = get_or gone i 0

  pub without_more : filter (λ y. not (y == x)) (filter (λ y. not (is_among y (take i gone))) live) ≡ filter (λ y. not (is_among y (take (i + 1) gone))) live
  without_more =
      filter_twice (λ y. not (y == x)) (λ y. not (is_among y (take i gone))) live
      ∙ filter_same (λ y. not (is_among y (take i gone)) && not (y == x)) (λ y. not (is_among y (take (i + 1) gone))) live
      (λ y _. neither (is_among y (take i gone)) (y == x) ∙ ap not (sym (among_push y x (take i gone)) ∙ ap (is_among y) (sym (take_more gone i 0 less))))

pub without_none : (live : List ℕ) → live ≡ filter (λ y. not (is_among y [])) live
without_none live = sym (filter_all (λ y. not (is_among y [])) live (λ y h. refl))

-- ---- One more is moved

module _ (moved live : List ℕ) (part : ArePart moved live) (distinct : IsDistinct (λ x y. x == y) live) where
  pub moved_live : (x : ℕ) → IsIn x moved → IsIn x live
  moved_live x h = (filter_in (λ y. is_among y moved) x live (subst (IsIn x) part h)).0

  moved_apart : Pairs Differ moved
  moved_apart = subst (λ l. Pairs Differ l) (sym part) (pairs_filter Differ (λ y. is_among y moved) live (distinct_pairs live distinct))

  module _ (i : ℕ) (less : i < length moved) where
    abbrev next : ℕ
    next = get_or moved i 0

    not_yet : (y : ℕ) → IsIn y (take i moved) → Differ y (get_or moved i 0)
    not_yet y h =
        pairs_across Differ (take i moved) (next ∷ drop (i + 1) moved)
        (subst (λ l. Pairs Differ (take i moved ++ l)) (cut_at 0 i next moved less refl) (subst (λ l. Pairs Differ l) (sym (take-append-drop i moved)) moved_apart)) y next h (inl refl)

    -- The next one is still live.
    pub still_live : is_among (get_or moved i 0) (filter (λ y. not (is_among y (take i moved))) live ++ take i moved) ≡ true
    still_live =
        among_from_in next (filter (λ y. not (is_among y (take i moved))) live ++ take i moved)
        (in_left next (filter (λ y. not (is_among y (take i moved))) live) (take i moved)
        (in_filter (λ y. not (is_among y (take i moved))) next live
        (elim (cases_Bool (is_among next (take i moved))) [
          | inl is ↦ absurd (eqb-false next next (not_yet next (in_from_among next (take i moved) is)) refl)
          | inr is ↦ ap not is
        ])
        (moved_live next (at_in 0 moved i less))))

    pub moved_more : filter (λ y. not (y == get_or moved i 0)) (filter (λ y. not (is_among y (take i moved))) live ++ take i moved) ++ get_or moved i 0 ∷ []
        ≡ filter (λ y. not (is_among y (take (i + 1) moved))) live ++ take (i + 1) moved
    moved_more =
        ap (λ l. l ++ next ∷ []) (filter_append (λ y. not (y == next)) (filter (λ y. not (is_among y (take i moved))) live) (take i moved)
        ∙ ap (λ l. l ++ filter (λ y. not (y == next)) (take i moved)) (without_more moved live i less)
        ∙ ap (λ l. filter (λ y. not (is_among y (take (i + 1) moved))) live ++ l) (filter_all (λ y. not (y == next)) (take i moved) (λ y h. ap not (not_yet y h))))
        ∙ append_assoc (filter (λ y. not (is_among y (take (i + 1) moved))) live) (take i moved) (next ∷ [])
        ∙ ap (λ l. filter (λ y. not (is_among y (take (i + 1) moved))) live ++ l) (sym (take_more moved i 0 less))

  pub moved_all : (i : ℕ) → length moved ≤ i → filter (λ y. not (is_among y (take i moved))) live ++ take i moved ≡ sides (λ y. is_among y moved) live
  moved_all i far =
      ap (λ l. filter (λ y. not (is_among y l)) live ++ l) (take_all i moved far)
      ∙ ap (λ l. filter (λ y. not (is_among y moved)) live ++ l) part

-- Without what isn't in a list it stays.
pub without_other : (live : List ℕ) (x : ℕ) → is_among x live ≡ false → live ≡ filter (λ y. not (y == x)) live
without_other live x none =
    sym (filter_all (λ y. not (y == x)) live (λ y h. ap not (ne_eqb y x (λ same. both_ways (is_among x live) none (among_from_in x live (subst (λ v. IsIn v live) same h))))))
