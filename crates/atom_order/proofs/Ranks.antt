-- Edges rise in an order, so a trace that has an order has no cycle.
use Rattle.std.proofs.Common.{◌≡◌, ℕ, suc, ◌<◌, cond, ◌==◌, ◌⊎◌, inl, inr, List, [], ◌∷◌, sym, subst, ◌∙◌, arith}
use Rattle.std.proofs.lemmas.Bool.{cases_eq}
use Rattle.velodrome.specs.Cycles.{IsIn, IsEdge, AreEdgesRound, AreAtomic}
use Rattle.velodrome.specs.Transactions.{Event}
use Rattle.atom_order.proofs.Members.{all_in}
use Rattle.atom_order.proofs.Pairs.{Pairs, NotBack}
use Rattle.atom_order.proofs.Kept.{chosen, passed_by}

-- The place of a number in a list.
abbrev pub place : ℕ → List ℕ → ℕ
place x [] = 0
place x (y ∷ ys) = cond (x == y) 0 (suc (place x ys))

tail_of : (x y : ℕ) (ys : List ℕ) → IsIn x (y ∷ ys) → (x ≡ y → ⊥) → IsIn x ys
tail_of x y ys (inl same) other = absurd (other same)
tail_of x y ys (inr h) other = h

pub rises : (events : List Event) (xs : List ℕ) (a b : ℕ) → Pairs (NotBack events) xs → IsIn a xs → IsIn b xs → IsEdge events a b → place a xs < place b xs
rises events [] a b p h g d = absurd h
rises events (y ∷ ys) a b p h g d = by (cases_eq b y) (cases_eq a y) (rises events ys a b p.1)
  where
    by : (b ≡ y) ⊎ (b ≡ y → ⊥) → (a ≡ y) ⊎ (a ≡ y → ⊥) → (IsIn a ys → IsIn b ys → IsEdge events a b → place a ys < place b ys) → place a (y ∷ ys) < place b (y ∷ ys)
    by (inl e) (inl f) more = absurd (d.0 (f ∙ sym e))
    by (inl e) (inr f) more = absurd (all_in (NotBack events y) ys a p.0 (tail_of a y ys h f) (subst (λ v. IsEdge events a v) e d))
    by (inr e) (inl f) more =
        let one = chosen a y 0 (suc (place a ys)) f in
        let two = passed_by b y 0 (suc (place b ys)) e in
        omega arith
    by (inr e) (inr f) more =
        let one = passed_by a y 0 (suc (place a ys)) f in
        let two = passed_by b y 0 (suc (place b ys)) e in
        let three = more (tail_of a y ys h f) (tail_of b y ys g e) d in
        omega arith

-- All edges rise in this rank.
abbrev pub Rises : List Event → (ℕ → ℕ) → Type 0
Rises events rank = (a b : ℕ) → IsEdge events a b → rank a < rank b

round_rises : (events : List Event) (rank : ℕ → ℕ) → Rises events rank → (first a : ℕ) (ts : List ℕ) → AreEdgesRound events first (a ∷ ts) → rank a < rank first
round_rises events rank up first a [] r = up a first r
round_rises events rank up first a (b ∷ ts) r =
    let one = up a b r.0 in
    let two = round_rises events rank up first b ts r.1 in
    omega arith

pub atomic_by_rank : (events : List Event) (rank : ℕ → ℕ) → Rises events rank → AreAtomic events
atomic_by_rank events rank up [] c = c
atomic_by_rank events rank up (a ∷ ts) c = let less = round_rises events rank up a a ts c.2 in absurd (omega arith)

pub rises_in_order : (events : List Event) (xs : List ℕ) → Pairs (NotBack events) xs → ((e : Event) → IsIn e events → IsIn e.transaction xs) → Rises events (λ x. place x xs)
rises_in_order events xs p placed a b d =
    rises events xs a b p (subst (λ v. IsIn v xs) d.3.2 (placed d.1 d.3.0)) (subst (λ v. IsIn v xs) d.3.3 (placed d.2 d.3.1)) d
