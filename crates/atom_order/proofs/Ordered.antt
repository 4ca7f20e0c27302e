-- Ranks, and the order of live transactions.
use Rattle.std.proofs.Common.{◌≡◌, ℕ, ◌+◌, ◌<◌, ◌≤◌, leb, false, cond, ◌==◌, inl, inr, List, [], ◌∷◌, ◌++◌, take, drop, refl, sym, ap, subst, ◌∙◌, arith}
use Rattle.std.proofs.lemmas.Bool.{cases_Bool, cases_lt, eq-eqb, eqb-false, ne_eqb, lt-leb, le-leb, both_ways}
use Rattle.std.proofs.lemmas.List.{take-append-drop, get_or-drop, length-drop, get_or-take, length-take, length-take-le, take-take}
use Rattle.std.specs.List.{IsDistinct}
use Rattle.velodrome.specs.Cycles.{IsIn}
use Rattle.atom_order.specs.declared.link.Link.{Link}
use Rattle.atom_order.specs.Reaching.{is_among, LeadForward}
use Rattle.atom_order.specs.Slots.{live_of, IsRank}
use Rattle.atom_order.specs.Sweeps.{from_on}
use Rattle.atom_order.proofs.Forward.{forward_back}
use Rattle.atom_order.proofs.Gaps.{HaveOneRank, rank_in, in_rank, rank_from, live_append, live_from, live_cut}
use Rattle.atom_order.proofs.Members.{all_in, among_from_in, in_from_among}
use Rattle.atom_order.proofs.Pairs.{Pairs, Differ, distinct_pairs, pairs_back}

-- A transaction from a rank on has a rank there.
pub from_rank : (xs : List ℕ) (x j : ℕ) → IsIn x (live_of (drop j xs)) → (k : ℕ) × IsRank xs x k × (j ≤ k)
from_rank xs x j h =
    let r = in_rank (drop j xs) x h in
    let bound = r.1.within in
    let long = length-drop j xs in
    (j + r.0, record { within = omega arith; here = sym (get_or-drop j xs r.0 0) ∙ r.1.here; lives = r.1.lives }, omega arith)

-- A transaction before a rank has a rank there.
pub before_rank : (xs : List ℕ) (x j : ℕ) → IsIn x (live_of (take j xs)) → (k : ℕ) × IsRank xs x k × (k < j)
before_rank xs x j h =
    let r = in_rank (take j xs) x h in
    let bound = r.1.within in
    let long = length-take j xs in
    let less : r.0 < j = omega arith in
    (r.0, record { within = omega arith; here = sym (get_or-take j xs r.0 0 less) ∙ r.1.here; lives = r.1.lives }, less)

module _ (xs : List ℕ) (x rank : ℕ) (r : IsRank xs x rank) (alone : (j : ℕ) → IsRank xs x j → j ≡ rank) where
  -- It isn't before its rank.
  pub not_before : IsIn x (live_of (take rank xs)) → ⊥
  not_before h = let q = before_rank xs x rank h in let same = alone q.0 q.1 in let less = q.2 in absurd (omega arith)

  -- What is at a rank or after it.
  pub behind_is : (k : ℕ) → leb k rank ≡ is_among x (live_of (drop k xs))
  behind_is k = elim (cases_lt rank k) [
    | inl before ↦ lt-leb k rank before ∙ sym (none before)
    | inr far ↦ le-leb k rank far ∙ sym (among_from_in x (live_of (drop k xs)) (rank_from xs x rank k r far))
  ]
    where
      none : rank < k → is_among x (live_of (drop k xs)) ≡ false
      none before = elim (cases_Bool (is_among x (live_of (drop k xs)))) [
        | inl is ↦ let q = from_rank xs x k (in_from_among x (live_of (drop k xs)) is) in let same = alone q.0 q.1 in let far = q.2 in absurd (omega arith)
        | inr is ↦ is
      ]

  pub from_on_rank : from_on x (live_of xs) ≡ live_of (drop rank xs)
  from_on_rank =
      ap (from_on x) (live_cut xs x rank r) ∙ skipped (live_of (take rank xs)) not_before ∙ sym (live_from xs x rank r)
    where
      skipped : (front : List ℕ) → (IsIn x front → ⊥) → from_on x (front ++ x ∷ live_of (drop (rank + 1) xs)) ≡ x ∷ live_of (drop (rank + 1) xs)
      skipped [] none = ap (λ b. cond b (x ∷ live_of (drop (rank + 1) xs)) (from_on x (live_of (drop (rank + 1) xs)))) (eq-eqb x x refl)
      skipped (y ∷ front) none =
          ap (λ b. cond b (y ∷ (front ++ x ∷ live_of (drop (rank + 1) xs))) (from_on x (front ++ x ∷ live_of (drop (rank + 1) xs)))) (ne_eqb y x (λ same. none (inl (sym same))))
          ∙ skipped front (λ h. none (inr h))

pub none_behind : (xs : List ℕ) (x k : ℕ) → is_among x (live_of xs) ≡ false → is_among x (live_of (drop k xs)) ≡ false
none_behind xs x k none = elim (cases_Bool (is_among x (live_of (drop k xs)))) [
  | inl is ↦ let q = from_rank xs x k (in_from_among x (live_of (drop k xs)) is) in absurd (both_ways (is_among x (live_of xs)) none (among_from_in x (live_of xs) (rank_in xs x q.0 q.1)))
  | inr is ↦ is
]

-- A link leads from a lower rank to a higher one.
pub rises : (into : ℕ → List Link) (xs : List ℕ) (y j k : ℕ) (l : Link) → LeadForward into (live_of xs) → IsRank xs y k → IsIn l (into y) → IsRank xs l.from j → j < k
rises into xs y j k l f r h q = elim (cases_lt j k) [
  | inl less ↦ less
  | inr far ↦
      absurd ((subst (LeadForward into) (live_from xs y k r)
      (forward_back into (live_of (take k xs)) (live_of (drop k xs)) (subst (LeadForward into) (ap live_of (sym (take-append-drop k xs)) ∙ live_append (take k xs) (drop k xs)) f))).0 l h
      (subst (λ (zs : List ℕ). IsIn l.from zs) (live_from xs y k r) (rank_from xs l.from j k q far)))
]

-- What is before the place after a rank: what is before an earlier one, and the rest.
pub rank_between : (xs : List ℕ) (x k bound : ℕ) → IsRank xs x k → bound ≤ k
    → (live_of (take (k + 1) xs) ≡ live_of (take bound xs) ++ live_of (drop bound (take (k + 1) xs))) × IsIn x (live_of (drop bound (take (k + 1) xs)))
rank_between xs x k bound r far =
    let within = r.within in
    let long = length-take-le (k + 1) xs (omega arith) in
    let less : k < k + 1 = omega arith in (
      ap live_of (sym (take-append-drop bound (take (k + 1) xs))) ∙ live_append (take bound (take (k + 1) xs)) (drop bound (take (k + 1) xs))
          ∙ ap (λ l. live_of l ++ live_of (drop bound (take (k + 1) xs))) (take-take bound (k + 1) xs (omega arith)),
      rank_from (take (k + 1) xs) x k bound (record { within = omega arith; here = get_or-take (k + 1) xs k 0 less ∙ r.here; lives = r.lives }) far,
    )

-- Distinct live transactions have one rank each.
pub one_rank_by : (xs : List ℕ) → IsDistinct (λ x y. x == y) (live_of xs) → HaveOneRank xs
one_rank_by xs distinct x i j r q = elim (cases_lt i j) [
  | inl less ↦ absurd (twice x i j r q less)
  | inr far ↦ elim (cases_lt j i) [ inl less ↦ absurd (twice x j i q r less) | inr near ↦ omega arith ]
]
  where
    twice : (x i j : ℕ) → IsRank xs x i → IsRank xs x j → i < j → ⊥
    twice x i j r q less =
        let pairs = pairs_back Differ (live_of (take i xs)) (x ∷ live_of (drop (i + 1) xs)) (subst (λ l. Pairs Differ l) (live_cut xs x i r) (distinct_pairs (live_of xs) distinct)) in
        eqb-false x x (all_in (Differ x) (live_of (drop (i + 1) xs)) x pairs.0 (rank_from xs x j (i + 1) q (omega arith))) refl
