-- A relation between each element of a list and each later one.
use Rattle.std.proofs.Common.{◌≡◌, ℕ, zero, suc, ◌<◌, Bool, true, false, not, cond, ◌==◌, inl, inr, List, [], ◌∷◌, ◌++◌, length, get_or, refl, sym, ap, subst, ◌∙◌, arith}
use Rattle.std.proofs.lemmas.Bool.{ne_eqb, not-true, both_ways}
use Rattle.std.specs.List.{AllByRecursion, IsDistinct, filter}
use Rattle.velodrome.specs.Cycles.{IsIn, IsEdge}
use Rattle.velodrome.specs.Orders.{NoneLeadsBack}
use Rattle.velodrome.specs.Transactions.{Event}
use Rattle.atom_order.proofs.Lists.{at_in}
use Rattle.atom_order.proofs.Members.{in_left, in_right, in_cases, all_in, in_all, filter_in}

abbrev pub Pairs : {X : Type 0} (R : X → X → Type 0) → List X → Type 0
Pairs R [] = Unit {0}
Pairs R (x ∷ xs) = AllByRecursion (R x) xs × Pairs R xs

module _ {X : Type 0} (R : X → X → Type 0) where
  abbrev pub Across : List X → List X → Type 0
  Across xs ys = (x y : X) → IsIn x xs → IsIn y ys → R x y

  pub pairs_joined : (xs ys : List X) → Pairs R xs → Pairs R ys → Across xs ys → Pairs R (xs ++ ys)
  pairs_joined [] ys p q a = q
  pairs_joined (x ∷ xs) ys p q a = (
    in_all (R x) (xs ++ ys) (λ z h. elim (in_cases z xs ys h) [ inl l ↦ all_in (R x) xs z p.0 l | inr r ↦ a x z (inl refl) r ]),
    pairs_joined xs ys p.1 q (λ z y h g. a z y (inr h) g),
  )

  pub pairs_front : (xs ys : List X) → Pairs R (xs ++ ys) → Pairs R xs
  pairs_front [] ys p = tt
  pairs_front (x ∷ xs) ys p =
      (in_all (R x) xs (λ z h. all_in (R x) (xs ++ ys) z p.0 (in_left z xs ys h)), pairs_front xs ys p.1)

  pub pairs_back : (xs ys : List X) → Pairs R (xs ++ ys) → Pairs R ys
  pairs_back [] ys p = p
  pairs_back (x ∷ xs) ys p = pairs_back xs ys p.1

  pub pairs_across : (xs ys : List X) → Pairs R (xs ++ ys) → Across xs ys
  pairs_across [] ys p x y h g = absurd h
  pairs_across (z ∷ xs) ys p x y (inl e) g = subst (λ v. R v y) (sym e) (all_in (R z) (xs ++ ys) y p.0 (in_right y xs ys g))
  pairs_across (z ∷ xs) ys p x y (inr h) g = pairs_across xs ys p.1 x y h g

  pub pairs_filter : (P : X → Bool) (xs : List X) → Pairs R xs → Pairs R (filter P xs)
  pairs_filter P [] p = tt
  pairs_filter P (x ∷ xs) p = by (pairs_filter P xs p.1) (P x)
    where
      by : Pairs R (filter P xs) → (b : Bool) → Pairs R (cond b (x ∷ filter P xs) (filter P xs))
      by behind true = (in_all (R x) (filter P xs) (λ z h. all_in (R x) xs z p.0 (filter_in P z xs h).0), behind)
      by behind false = behind

  pub pairs_mapped : (S : X → X → Type 0) (xs : List X) → ((x y : X) → IsIn x xs → IsIn y xs → R x y → S x y) → Pairs R xs → Pairs S xs
  pairs_mapped S [] each p = tt
  pairs_mapped S (x ∷ xs) each p =
      (in_all (S x) xs (λ z h. each x z (inl refl) (inr h) (all_in (R x) xs z p.0 h)), pairs_mapped S xs (λ y z h g. each y z (inr h) (inr g)) p.1)

  pub pairs_of_all : (xs : List X) → Across xs xs → Pairs R xs
  pairs_of_all [] a = tt
  pairs_of_all (x ∷ xs) a = (in_all (R x) xs (λ y h. a x y (inl refl) (inr h)), pairs_of_all xs (λ y z h g. a y z (inr h) (inr g)))

  pub pairs_both : (S T : X → X → Type 0) (xs : List X) → ((x y : X) → IsIn x xs → IsIn y xs → R x y → S x y → T x y) → Pairs R xs → Pairs S xs → Pairs T xs
  pairs_both S T [] each p q = tt
  pairs_both S T (x ∷ xs) each p q = (
    in_all (T x) xs (λ z h. each x z (inl refl) (inr h) (all_in (R x) xs z p.0 h) (all_in (S x) xs z q.0 h)),
    pairs_both S T xs (λ y z h g. each y z (inr h) (inr g)) p.1 q.1,
  )

  -- One side of a test is moved after the other.
  pub pairs_sides : (P : X → Bool) (front xs : List X) → Pairs R (front ++ xs)
      → ((x y : X) → IsIn x xs → IsIn y xs → P x ≡ false → P y ≡ true → R x y)
      → Pairs R (front ++ (filter (λ y. not (P y)) xs ++ filter P xs))
  pairs_sides P front xs p sides =
      pairs_joined front (filter (λ y. not (P y)) xs ++ filter P xs) (pairs_front front xs p)
      (pairs_joined (filter (λ y. not (P y)) xs) (filter P xs) (pairs_filter (λ y. not (P y)) xs (pairs_back front xs p)) (pairs_filter P xs (pairs_back front xs p))
      (λ x y h g. let a = filter_in (λ z. not (P z)) x xs h in let b = filter_in P y xs g in sides x y a.0 b.0 (not-true (P x) a.1) b.1))
      (λ x y h g.
      elim (in_cases y (filter (λ z. not (P z)) xs) (filter P xs) g) [
        | inl l ↦ pairs_across front xs p x y h (filter_in (λ z. not (P z)) y xs l).0
        | inr r ↦ pairs_across front xs p x y h (filter_in P y xs r).0
      ])

-- ---- Distinct numbers, and orders

abbrev pub Differ : ℕ → ℕ → Type 0
Differ x y = (x == y) ≡ false

pub distinct_pairs : (xs : List ℕ) → IsDistinct (λ x y. x == y) xs → Pairs Differ xs
unfolding IsDistinct
distinct_pairs [] d = tt
distinct_pairs (x ∷ xs) d = (d.0, distinct_pairs xs d.1)

pub pairs_distinct : (xs : List ℕ) → Pairs Differ xs → IsDistinct (λ x y. x == y) xs
unfolding IsDistinct
pairs_distinct [] d = tt
pairs_distinct (x ∷ xs) d = (d.0, pairs_distinct xs d.1)

abbrev pub NotBack : List Event → ℕ → ℕ → Type 0
NotBack events a b = IsEdge events b a → ⊥

pub order_pairs : (events : List Event) (xs : List ℕ) → NoneLeadsBack events xs → Pairs (NotBack events) xs
order_pairs events [] d = tt
order_pairs events (x ∷ xs) d = (d.0, order_pairs events xs d.1)

pub pairs_order : (events : List Event) (xs : List ℕ) → Pairs (NotBack events) xs → NoneLeadsBack events xs
pairs_order events [] d = tt
pairs_order events (x ∷ xs) d = (d.0, pairs_order events xs d.1)

pub differ_sides : (P : ℕ → Bool) (x y : ℕ) → P x ≡ false → P y ≡ true → Differ x y
differ_sides P x y p q = ne_eqb x y (λ e. both_ways (P y) (ap P (sym e) ∙ p) q)

pub pairs_at : (R : ℕ → ℕ → Type 0) (xs : List ℕ) (i j : ℕ) → Pairs R xs → i < j → j < length xs → R (get_or xs i 0) (get_or xs j 0)
pairs_at R [] i j p less far = absurd (omega arith)
pairs_at R (x ∷ xs) zero zero p less far = absurd (omega arith)
pairs_at R (x ∷ xs) zero (suc j) p less far = all_in (R x) xs (get_or xs j 0) p.0 (at_in 0 xs j (omega arith))
pairs_at R (x ∷ xs) (suc i) zero p less far = absurd (omega arith)
pairs_at R (x ∷ xs) (suc i) (suc j) p less far = pairs_at R xs i j p.1 (omega arith) (omega arith)
