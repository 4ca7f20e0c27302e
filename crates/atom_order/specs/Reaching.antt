-- Defines orders in which links lead forward (own).
use Rattle.std.specs.Prelude.{◌≡◌, ℕ, Bool, false, ◌==◌, ◌||◌, List, [], ◌∷◌}
use Rattle.std.specs.List.{filter}
use Rattle.velodrome.specs.Cycles.{IsIn}
use Rattle.atom_order.specs.declared.link.Link.{Link}

abbrev pub is_among : ℕ → List ℕ → Bool
is_among x [] = false
is_among x (y ∷ ys) = x == y || is_among x ys

-- The numbers are some of a list, in its order.
abbrev pub ArePart : List ℕ → List ℕ → Type 0
ArePart part all = part ≡ filter (λ x. is_among x part) all

-- No link leads into a transaction from itself or a later one.
abbrev pub LeadForward : (ℕ → List Link) → List ℕ → Type 0
LeadForward into [] = Unit {0}
LeadForward into (y ∷ ys) = ((l : Link) → IsIn l (into y) → IsIn l.from (y ∷ ys) → ⊥) × LeadForward into ys
