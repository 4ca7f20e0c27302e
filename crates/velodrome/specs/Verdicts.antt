-- Defines the verdict on a trace: a serial order if no cycle exists, else the shortest prefix with a cycle (Velodrome,
-- sections 3 and 4).
use Rattle.std.specs.Prelude.{◌≡◌, ℕ, List, [], ◌∷◌, take}
use Rattle.velodrome.specs.declared.verdict.ConflictingPair.{ConflictingPair}
use Rattle.velodrome.specs.declared.verdict.Verdict.{Verdict}
use Rattle.velodrome.specs.declared.verdict.Verdict.TheVariants as verdict
use Rattle.velodrome.specs.Cycles.{AreAtomic, IsCycle, IsFirstAt, IsIn, IsPair}
use Rattle.velodrome.specs.Orders.{IsOrder}
use Rattle.velodrome.specs.Transactions.{Event, TraceState}

-- A pair has the numbers of two conflicting events, the earlier of transaction a and the later of b.
abbrev pub ArePairNumbers : List Event → ℕ → ℕ → ConflictingPair → Type 0
ArePairNumbers events a b p =
    (e : Event) × (f : Event) × IsPair events a b e f × (e.number ≡ p.earlier) × (f.number ≡ p.later)

-- The list has one pair from each transaction to the next, and one from the last to the first.
abbrev pub ArePairsRound : List Event → ℕ → List ℕ → List ConflictingPair → Type 0
ArePairsRound events first (a ∷ []) (p ∷ []) = ArePairNumbers events a first p
ArePairsRound events first (a ∷ b ∷ transactions) (p ∷ pairs) =
    ArePairNumbers events a b p × ArePairsRound events first (b ∷ transactions) pairs
ArePairsRound events first transactions pairs = ⊥

-- The first transaction is that of event n.
abbrev pub BeginsWith : List Event → ℕ → List ℕ → Type 0
BeginsWith events n transactions =
    (e : Event) × (rest : List ℕ) × IsIn e events × (e.number ≡ n) × (transactions ≡ e.transaction ∷ rest)

-- The transactions are a cycle of the events, the pairs are its edges, and it begins with the transaction of event n.
abbrev pub IsShownCycle : List Event → ℕ → List ℕ → List ConflictingPair → Type 0
IsShownCycle events n [] pairs = ⊥
IsShownCycle events n (a ∷ transactions) pairs =
    IsCycle events (a ∷ transactions) × ArePairsRound events a (a ∷ transactions) pairs × BeginsWith events n (a ∷ transactions)

-- The verdict is true of the trace. Both verdicts cannot be true of one trace.
abbrev pub IsVerdict : TraceState → Verdict → Type 0
IsVerdict w (verdict.Atomic order) = AreAtomic w.events × IsOrder w.events w.transactions order
IsVerdict w (verdict.Cycle first_at transactions pairs) =
    IsFirstAt w.events first_at × IsShownCycle (take first_at w.events) first_at transactions pairs
