-- What is left of departures is a part of them.
use Rattle.std.proofs.Common.{List, [], ap, arith, drop, inl, inr, refl, subst, take, ℕ, suc, zero, ◌++◌, ◌+◌, ◌∷◌, ◌≡◌}
use Rattle.departures.specs.declared.departure.Departure.{Departure}
use Rattle.shrinking.specs.Parts.{IsPartOf, without}

pub whole : (all : List Departure) → IsPartOf all all
unfolding IsPartOf
whole [] = refl
whole (d ∷ all) = inr (all, refl, whole all)

pub through : (part some all : List Departure) → IsPartOf part some → IsPartOf some all → IsPartOf part all
unfolding IsPartOf
through part some [] first second = subst (λ (x : List Departure). IsPartOf part x) second first
through part some (d ∷ all) first (inl later) = inl (through part some all first later)
through part some (d ∷ all) first (inr (rest, is, later)) =
    elim (subst (λ (x : List Departure). IsPartOf part x) is first) [
      | inl one ↦ inl (through part rest all one later)
      | inr two ↦ inr (two.0, two.1, through two.0 rest all two.2 later)
    ]

dropped : (n : ℕ) (all : List Departure) → IsPartOf (drop n all) all
unfolding IsPartOf
dropped zero [] = refl
dropped (suc n) [] = refl
dropped zero (d ∷ all) = inr (all, refl, whole all)
dropped (suc n) (d ∷ all) = inl (dropped n all)

pub left : (index count : ℕ) (all : List Departure) → IsPartOf (without index count all) all
unfolding IsPartOf
left zero count all = subst (λ (n : ℕ). IsPartOf (drop n all) all) (omega arith) (dropped count all)
left (suc index) count [] =
    let next : suc index + count ≡ suc (index + count) = omega arith in rw next refl
left (suc index) count (d ∷ all) =
    let next : suc index + count ≡ suc (index + count) = omega arith in
    inr (take index all ++ drop (index + count) all, ap (λ (n : ℕ). d ∷ take index all ++ drop n (d ∷ all)) next, left index count all)
