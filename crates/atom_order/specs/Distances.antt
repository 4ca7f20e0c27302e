-- Defines the distance from each transaction back to one: the least number of links (own).
use Rattle.std.specs.Prelude.{◌≡◌, ◌≢◌, ℕ, ◌+◌, ◌≤◌, ◌⊎◌, List, length, Option, Some, None, MatchOption}
use Rattle.std.specs.Map.{lookup}
use Rattle.std.specs.Ordering.{nat_cmp}
use Rattle.std.specs.BTreeMap.{is_at}
use Rattle.velodrome.specs.Cycles.{IsIn}
use Rattle.atom_order.specs.declared.distances.Near.{Near}
use Rattle.atom_order.specs.declared.link.Link.{Link}
use Rattle.atom_order.specs.Trails.{IsTrail}

-- n links lead back from b to a, and no fewer do.
pub record IsDistance (live : List ℕ) (into : ℕ → List Link) (a b n : ℕ) : Type 0 where
  pub trail : List Link
  pub way : IsTrail live into a b trail
  pub long : length trail ≡ n
  pub least : (others : List Link) → IsTrail live into a b others → n ≤ length others

-- Returns the distance that is stored for a transaction.
abbrev pub distance_in : List (ℕ × ℕ) → ℕ → Option ℕ
distance_in entries x = lookup (is_at (nat_cmp x)) entries

-- The entries have the distance of each transaction from which links lead back to a, and no others.
pub record AreDistances (live : List ℕ) (into : ℕ → List Link) (a : ℕ) (entries : List (ℕ × ℕ)) : Type 0 where
  pub kept : (x n : ℕ) → distance_in entries x ≡ Some n → IsDistance live into a x n
  pub all : (x : ℕ) (trail : List Link) → IsTrail live into a x trail → (n : ℕ) × (distance_in entries x ≡ Some n)

-- The link is one of the list, and its transaction has the least stored distance.
pub record IsNearest (links : List Link) (entries : List (ℕ × ℕ)) (near : Near) : Type 0 where
  pub among : IsIn near.link links
  pub at : distance_in entries near.link.from ≡ Some near.distance
  pub least : (l : Link) (n : ℕ) → IsIn l links → distance_in entries l.from ≡ Some n → near.distance ≤ n

-- No distance is stored for a transaction that one of the links leads from.
abbrev pub AreFar : List Link → List (ℕ × ℕ) → Type 0
AreFar links entries = (l : Link) → IsIn l links → distance_in entries l.from ≡ None

-- The result is a nearest link, or none if no distance is stored for any.
abbrev pub IsBest : List Link → List (ℕ × ℕ) → Option Near → Type 0
IsBest links entries best = MatchOption best (AreFar links entries) (IsNearest links entries)

-- The distance of y is 0 if y is a. Else it is 1 more than that of the nearest of the links into y.
abbrev pub IsNext : ℕ → ℕ → List Link → List (ℕ × ℕ) → ℕ → Type 0
IsNext a y links entries n = ((y ≡ a) × (n ≡ 0)) ⊎ ((y ≢ a) × (near : Near) × IsNearest links entries near × (n ≡ near.distance + 1))
