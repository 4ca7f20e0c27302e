-- Defines what open transactions reach by edges. This is what a checker must remember (Velodrome, section 4).
use Rattle.std.specs.Prelude.{◌≡◌, ℕ, ◌==◌, ◌↔◌, List, [], ◌∷◌, length, Some}
use Rattle.std.specs.List.{IsDistinct}
use Rattle.velodrome.specs.Cycles.{IsEdge, IsIn}
use Rattle.velodrome.specs.Transactions.{Event, TraceState}

-- A transaction is open while its atomic method is open.
abbrev pub IsOpen : TraceState → ℕ → Type 0
IsOpen w a = (thread : ℕ) × ((w.threads thread).transaction ≡ Some a)

-- Edges lead from a through the listed transactions, in order, to b.
abbrev pub IsPath : List Event → ℕ → List ℕ → ℕ → Type 0
IsPath events a [] b = a ≡ b
IsPath events a (c ∷ through) b = IsEdge events a c × IsPath events c through b

abbrev pub Reaches : List Event → ℕ → ℕ → Type 0
Reaches events a b = (through : List ℕ) × IsPath events a through b

-- An open transaction reaches b. It may be b itself.
abbrev pub IsReached : TraceState → ℕ → Type 0
IsReached w b = (a : ℕ) × IsOpen w a × Reaches w.events a b

-- Open transactions reach exactly n transactions.
abbrev pub AreReached : TraceState → ℕ → Type 0
AreReached w n =
    (live : List ℕ) × (length live ≡ n) × IsDistinct (λ x y. x == y) live × ((a : ℕ) → IsIn a live ↔ IsReached w a)
