-- The live transactions of slots with gaps.
use Rattle.std.proofs.Common.{◌≡◌, ◌≢◌, ℕ, suc, ◌+◌, ◌-◌, ◌<◌, ◌≤◌, false, not, cond, ◌==◌, ◌⊎◌, inl, inr, List, [], ◌∷◌, ◌++◌, length, take, drop, get_or, set, refl, sym, ap, subst, ◌∙◌, arith}
use Rattle.std.proofs.lemmas.Bool.{cases_Bool, cases_eq, eq-eqb, ne_eqb, eqb-false, not-true}
use Rattle.std.proofs.lemmas.List.{take-append-drop, get_or-drop, length-drop, set_split, get_or-map, length-map, map-set, map_push, get_or_default}
use Rattle.std.proofs.Math.Seq.{map-set_same}
use Rattle.std.specs.List.{filter}
use Rattle.velodrome.specs.Cycles.{IsIn}
use Rattle.atom_order.specs.Reaching.{is_among}
use Rattle.atom_order.specs.declared.slots.Slot.{Slot}
use Rattle.atom_order.specs.Slots.{gap, numbers_of, live_of, IsRank}
use Rattle.atom_order.proofs.Members.{in_all, all_in, in_filter, filter_in, in_from_among}
use Rattle.atom_order.proofs.Lists.{at_in, in_at, cut_at, filter_append, filter_all}
use Rattle.atom_order.proofs.Pairs.{Pairs, Differ, pairs_across, pairs_back}

-- ---- Live transactions have ranks

pub rank_in : (xs : List ℕ) (x k : ℕ) → IsRank xs x k → IsIn x (live_of xs)
rank_in xs x k r = in_filter (λ y. not (y == 0)) x xs (ap not (ne_eqb x 0 r.lives)) (subst (λ y. IsIn y xs) r.here (at_in 0 xs k r.within))

pub not_zero : (xs : List ℕ) (x : ℕ) → IsIn x (live_of xs) → x ≢ 0
not_zero xs x h = eqb-false x 0 (not-true (x == 0) (filter_in (λ y. not (y == 0)) x xs h).1)

pub in_rank : (xs : List ℕ) (x : ℕ) → IsIn x (live_of xs) → (k : ℕ) × IsRank xs x k
in_rank xs x h =
    let at = in_at 0 xs x (filter_in (λ y. not (y == 0)) x xs h).0 in
    (at.0, record { within = at.1; here = at.2; lives = not_zero xs x h })

-- ---- Slots

pub numbers_len : (slots : List Slot) → length (numbers_of slots) ≡ length slots
numbers_len slots = length-map slots (λ (s : Slot). s.transaction)

-- The transaction in a slot.
pub slot_read : (slots : List Slot) (i : ℕ) (s : Slot) → s ≡ get_or slots i s → i < length slots → get_or (numbers_of slots) i 0 ≡ s.transaction
slot_read slots i s is less = get_or-map (λ (n : Slot). n.transaction) slots i s 0 less ∙ ap (λ (n : Slot). n.transaction) (sym is)

-- ---- Parts

pub live_append : (xs ys : List ℕ) → live_of (xs ++ ys) ≡ live_of xs ++ live_of ys
live_append xs ys = filter_append (λ x. not (x == 0)) xs ys

pub live_one : (x : ℕ) (xs : List ℕ) → x ≢ 0 → live_of (x ∷ xs) ≡ x ∷ live_of xs
live_one x xs other = ap (λ b. cond (not b) (x ∷ live_of xs) (live_of xs)) (ne_eqb x 0 other)

pub live_gap : (xs : List ℕ) → live_of (0 ∷ xs) ≡ live_of xs
live_gap xs = ap (λ b. cond (not b) (0 ∷ live_of xs) (live_of xs)) (eq-eqb 0 0 refl)

-- The live transactions from a rank on begin with the one there.
pub live_from : (xs : List ℕ) (x k : ℕ) → IsRank xs x k → live_of (drop k xs) ≡ x ∷ live_of (drop (k + 1) xs)
live_from xs x k r = ap live_of (cut_at 0 k x xs r.within r.here) ∙ live_one x (drop (k + 1) xs) r.lives

pub live_cut : (xs : List ℕ) (x k : ℕ) → IsRank xs x k → live_of xs ≡ live_of (take k xs) ++ x ∷ live_of (drop (k + 1) xs)
live_cut xs x k r =
    ap live_of (sym (take-append-drop k xs)) ∙ live_append (take k xs) (drop k xs) ∙ ap (λ l. live_of (take k xs) ++ l) (live_from xs x k r)

-- A slot becomes a gap.
pub live_vacated : (xs : List ℕ) (k : ℕ) → k < length xs → live_of (set xs k 0) ≡ live_of (take k xs) ++ live_of (drop (k + 1) xs)
live_vacated xs k less =
    let one : suc k ≡ k + 1 = omega arith in
    ap live_of (set_split xs k 0 less ∙ ap (λ i. take k xs ++ 0 ∷ drop i xs) one)
    ∙ live_append (take k xs) (0 ∷ drop (k + 1) xs) ∙ ap (λ l. live_of (take k xs) ++ l) (live_gap (drop (k + 1) xs))

-- A transaction whose rank isn't below another one is among those from there on.
pub rank_from : (xs : List ℕ) (x k j : ℕ) → IsRank xs x k → j ≤ k → IsIn x (live_of (drop j xs))
rank_from xs x k j r far =
    let bound = r.within in
    let less : k < length xs = omega arith in
    let whole : j + (k - j) ≡ k = omega arith in
    rank_in (drop j xs) x (k - j) (record {
      within = omega (arith, length-drop j xs);
      here = get_or-drop j xs (k - j) 0 ∙ ap (λ i. get_or xs i 0) whole ∙ r.here;
      lives = r.lives;
    })

-- ---- Each live transaction has one rank

abbrev pub HaveOneRank : List ℕ → Type 0
HaveOneRank xs = (x i j : ℕ) → IsRank xs x i → IsRank xs x j → i ≡ j

-- Then they are distinct.
pub live_apart : (xs : List ℕ) → HaveOneRank xs → Pairs Differ (live_of xs)
live_apart [] one = tt
live_apart (x ∷ xs) one = by (live_apart xs after) (cases_eq x 0)
  where
    moved : (y i : ℕ) → IsRank xs y i → IsRank (x ∷ xs) y (suc i)
    moved y i r = let bound = r.within in record { within = omega arith; here = r.here; lives = r.lives }

    after : HaveOneRank xs
    after y i j r q = let same = one y (suc i) (suc j) (moved y i r) (moved y j q) in omega arith

    apart : x ≢ 0 → (y : ℕ) → IsIn y (live_of xs) → Differ x y
    apart other y h =
        let r = in_rank xs y h in
        ne_eqb x y (λ same. let at = one y 0 (suc r.0) (record { within = omega arith; here = same; lives = r.1.lives }) (moved y r.0 r.1) in absurd (omega arith))

    by : Pairs Differ (live_of xs) → (x ≡ 0) ⊎ (x ≡ 0 → ⊥) → Pairs Differ (live_of (x ∷ xs))
    by more (inl same) = subst (λ l. Pairs Differ l) (sym (ap (λ y. live_of (y ∷ xs)) same ∙ live_gap xs)) more
    by more (inr other) = subst (λ l. Pairs Differ l) (sym (live_one x xs other)) (in_all (Differ x) (live_of xs) (apart other), more)

-- Without the transaction at a rank, the others are left.
pub live_without : (xs : List ℕ) (x k : ℕ) → HaveOneRank xs → IsRank xs x k → live_of (set xs k 0) ≡ filter (λ y. not (y == x)) (live_of xs)
live_without xs x k one r =
    live_vacated xs k r.within
    ∙ sym (ap (λ l. filter (λ y. not (y == x)) l) (live_cut xs x k r)
    ∙ filter_append (λ y. not (y == x)) front (x ∷ behind)
    ∙ ap (λ l. l ++ filter (λ y. not (y == x)) (x ∷ behind)) (filter_all (λ y. not (y == x)) front (λ y h. ap not (pairs_across Differ front (x ∷ behind) apart y x h (inl refl))))
    ∙ ap (λ l. front ++ l) (ap (λ b. cond (not b) (x ∷ filter (λ y. not (y == x)) behind) (filter (λ y. not (y == x)) behind)) (eq-eqb x x refl)
    ∙ filter_all (λ y. not (y == x)) behind (λ y h. ap not (ne_eqb y x (λ same. eqb-false x y (all_in (Differ x) behind y (pairs_back Differ front (x ∷ behind) apart).0 h) (sym same))))))
  where
    front : List ℕ
    front = live_of (take k xs)

    behind : List ℕ
    behind = live_of (drop (k + 1) xs)

    apart : Pairs Differ (live_of (take k xs) ++ x ∷ live_of (drop (k + 1) xs))
    apart = subst (λ l. Pairs Differ l) (live_cut xs x k r) (live_apart xs one)

-- Transaction 0 isn't live.
pub zero_not_live : (xs : List ℕ) (x : ℕ) → x ≡ 0 → is_among x (live_of xs) ≡ false
zero_not_live xs x same = elim (cases_Bool (is_among x (live_of xs))) [
  | inl is ↦ absurd (not_zero xs x (in_from_among x (live_of xs) is) same)
  | inr is ↦ is
]

-- ---- Slots that change

pub numbers_same : (slots : List Slot) (k : ℕ) (s : Slot) → s.transaction ≡ (get_or slots k gap).transaction → numbers_of (set slots k s) ≡ numbers_of slots
numbers_same slots k s same = map-set_same (λ (n : Slot). n.transaction) slots k s gap same

pub numbers_set : (slots : List Slot) (k : ℕ) (s : Slot) → numbers_of (set slots k s) ≡ set (numbers_of slots) k s.transaction
numbers_set slots k s = map-set (λ (n : Slot). n.transaction) slots k s

pub numbers_push : (slots : List Slot) (s : Slot) → numbers_of (slots ++ s ∷ []) ≡ numbers_of slots ++ s.transaction ∷ []
numbers_push slots s = map_push (λ (n : Slot). n.transaction) slots s

-- The transaction in the slot at a rank.
pub rank_read : (slots : List Slot) (x k : ℕ) (s : Slot) → s ≡ get_or slots k s → IsRank (numbers_of slots) x k → s.transaction ≡ x
rank_read slots x k s is r =
    let bound = r.within in
    let long = numbers_len slots in
    sym (slot_read slots k s is (omega arith)) ∙ r.here

-- A slot is written that keeps its transaction.
pub numbers_kept : (slots : List Slot) (k : ℕ) (s v : Slot) → s ≡ get_or slots k s → k < length slots → v.transaction ≡ s.transaction → numbers_of (set slots k v) ≡ numbers_of slots
numbers_kept slots k s v is less same =
    numbers_same slots k v (same ∙ ap (λ (n : Slot). n.transaction) (is ∙ sym (get_or_default slots k gap s less)))

-- No live transaction is a gap.
pub live_again : (xs : List ℕ) → live_of (live_of xs) ≡ live_of xs
live_again xs = filter_all (λ x. not (x == 0)) (live_of xs) (λ x h. (filter_in (λ y. not (y == 0)) x xs h).1)
