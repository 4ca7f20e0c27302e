-- Defines edges between transactions, and cycles of edges (Velodrome, section 3).
use Rattle.std.specs.Prelude.{◌≡◌, ◌≢◌, ℕ, ◌<◌, ◌≤◌, ◌==◌, ◌⊎◌, List, [], ◌∷◌, length, take, IsTrue}
use Rattle.std.specs.List.{IsDistinct}
use Rattle.velodrome.specs.Conflicts.{conflict}
use Rattle.velodrome.specs.Transactions.{Event}

-- The list has x.
abbrev pub IsIn : {X : Type 0} → X → List X → Type 0
IsIn x [] = ⊥
IsIn x (y ∷ ys) = (x ≡ y) ⊎ IsIn x ys

-- Event e is earlier than event f, and they conflict.
abbrev pub IsBefore : Event → Event → Type 0
IsBefore e f = (e.number < f.number) × IsTrue (conflict e.item f.item)

-- Event e belongs to transaction a, event f to transaction b. Event e is earlier, and they conflict.
abbrev pub IsPair : List Event → ℕ → ℕ → Event → Event → Type 0
IsPair events a b e f = IsIn e events × IsIn f events × (e.transaction ≡ a) × (f.transaction ≡ b) × IsBefore e f

-- An edge leads from transaction a to a different transaction b: an event of a is earlier than one of b, and they
-- conflict.
abbrev pub IsEdge : List Event → ℕ → ℕ → Type 0
IsEdge events a b = (a ≢ b) × (e : Event) × (f : Event) × IsPair events a b e f

-- An edge leads from each transaction of the list to the next one, and from the last to `first`.
abbrev pub AreEdgesRound : List Event → ℕ → List ℕ → Type 0
AreEdgesRound events first [] = ⊥
AreEdgesRound events first (a ∷ []) = IsEdge events a first
AreEdgesRound events first (a ∷ b ∷ transactions) = IsEdge events a b × AreEdgesRound events first (b ∷ transactions)

-- A cycle has at least two transactions, all different. An edge leads from each to the next, and from the last to the
-- first.
abbrev pub IsCycle : List Event → List ℕ → Type 0
IsCycle events [] = ⊥
IsCycle events (a ∷ transactions) =
    (1 ≤ length transactions) × IsDistinct (λ x y. x == y) (a ∷ transactions) × AreEdgesRound events a (a ∷ transactions)

-- The events have no cycle.
abbrev pub AreAtomic : List Event → Type 0
AreAtomic events = (transactions : List ℕ) → IsCycle events transactions → ⊥

-- The first n events have a cycle, and no shorter prefix has one.
abbrev pub IsFirstAt : List Event → ℕ → Type 0
IsFirstAt events n =
    ((transactions : List ℕ) × IsCycle (take n events) transactions) × ((m : ℕ) → m < n → AreAtomic (take m events))
