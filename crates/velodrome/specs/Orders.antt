-- Defines serial orders of transactions (Velodrome, section 3).
use Rattle.std.specs.Prelude.{◌≡◌, ℕ, ◌<◌, ◌≤◌, ◌==◌, List, [], ◌∷◌, length}
use Rattle.std.specs.List.{AllByRecursion, IsDistinct}
use Rattle.velodrome.specs.Cycles.{IsEdge}
use Rattle.velodrome.specs.Transactions.{Event}

-- The list has each number from 1 to n once.
abbrev pub AreNumbersTo : ℕ → List ℕ → Type 0
AreNumbersTo n numbers =
    (length numbers ≡ n) × IsDistinct (λ x y. x == y) numbers × AllByRecursion (λ k. (0 < k) × (k ≤ n)) numbers

-- No edge leads from a later transaction of the list to an earlier one.
abbrev pub NoneLeadsBack : List Event → List ℕ → Type 0
NoneLeadsBack events [] = Unit {0}
NoneLeadsBack events (a ∷ order) = AllByRecursion (λ b. IsEdge events b a → ⊥) order × NoneLeadsBack events order

-- The order has every transaction once, and no edge leads from a later one to an earlier one.
abbrev pub IsOrder : List Event → ℕ → List ℕ → Type 0
IsOrder events transactions order = AreNumbersTo transactions order × NoneLeadsBack events order
