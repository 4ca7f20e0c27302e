-- A trace has one verdict.
use Rattle.std.proofs.Common.{◌≡◌, ℕ, zero, suc, List, [], ◌∷◌, take, inl, inr, ⊎_elim, arith}
use Rattle.std.proofs.lemmas.Bool.{cases_lt}
use Rattle.velodrome.specs.Cycles.{AreAtomic, AreEdgesRound, IsCycle, IsEdge, IsFirstAt, IsIn}
use Rattle.velodrome.specs.Transactions.{Event}

in_take : (n : ℕ) (events : List Event) (e : Event) → IsIn e (take n events) → IsIn e events
in_take zero [] e in_first = in_first
in_take zero (f ∷ events) e in_first = absurd in_first
in_take (suc n) [] e in_first = in_first
in_take (suc n) (f ∷ events) e (inl same) = inl same
in_take (suc n) (f ∷ events) e (inr more) = inr (in_take n events e more)

edge_of_first : (n : ℕ) (events : List Event) (a b : ℕ) → IsEdge (take n events) a b → IsEdge events a b
edge_of_first n events a b edge = (edge.0, edge.1, edge.2, (in_take n events edge.1 edge.3.0, in_take n events edge.2 edge.3.1, edge.3.2, edge.3.3, edge.3.4))

round_of_first : (n : ℕ) (events : List Event) (first : ℕ) (transactions : List ℕ) → AreEdgesRound (take n events) first transactions → AreEdgesRound events first transactions
round_of_first n events first [] round = round
round_of_first n events first (a ∷ []) round = edge_of_first n events a first round
round_of_first n events first (a ∷ b ∷ transactions) round = (edge_of_first n events a b round.0, round_of_first n events first (b ∷ transactions) round.1)

-- A cycle of the first events is a cycle of all.
cycle_of_first : (n : ℕ) (events : List Event) (transactions : List ℕ) → IsCycle (take n events) transactions → IsCycle events transactions
cycle_of_first n events [] cycle = cycle
cycle_of_first n events (a ∷ transactions) cycle = (cycle.0, cycle.1, round_of_first n events a (a ∷ transactions) cycle.2)

pub atomic_has_no_first : (events : List Event) (n : ℕ) → AreAtomic events → IsFirstAt events n → ⊥
atomic_has_no_first events n atomic first = atomic first.0.0 (cycle_of_first n events first.0.0 first.0.1)

pub one_first : (events : List Event) (m n : ℕ) → IsFirstAt events m → IsFirstAt events n → m ≡ n
one_first events m n here there = ⊎_elim
    (λ less. absurd (there.1 m less here.0.0 here.0.1))
    (λ enough. ⊎_elim (λ more. absurd (here.1 n more there.0.0 there.0.1)) (λ most. omega arith) (cases_lt n m))
    (cases_lt m n)
