-- Defines the graph as data: lists indexed by transaction, from 0. No transaction has number 0 (own).
use Rattle.std.specs.Prelude.{◌≡◌, ℕ, ◌≤◌, ◌==◌, Bool, true, false, not, cond, ◌||◌, ◌&&◌, List, [], ◌∷◌, ◌++◌, length, get_or}
use Rattle.std.specs.List.{IsDistinct, filter}
use Rattle.velodrome.specs.Cycles.{IsIn}
use Rattle.atom_order.specs.declared.link.Link.{Link}
use Rattle.atom_order.specs.declared.link.Closing.{Closing}
use Rattle.atom_order.specs.Keeping.{Order, sides, IsKeptLive, IsReach, IsLeft}
use Rattle.atom_order.specs.Reaching.{is_among, LeadForward}
use Rattle.atom_order.specs.Trails.{IsTrail}

pub record Shape : Type 0 where
  pub dropped : List ℕ
  pub live : List ℕ
  pub is_open : List Bool
  pub into : List (List Link)

abbrev pub open_in : Shape → ℕ → Bool
open_in s y = get_or s.is_open y false

abbrev pub into_in : Shape → ℕ → List Link
into_in s y = get_or s.into y []

abbrev pub order_of : Shape → Order
order_of s = record { dropped = s.dropped; live = s.live; is_open = open_in s; into = into_in s }

abbrev pub no_transactions : Shape
no_transactions = record { dropped = []; live = []; is_open = false ∷ []; into = [] ∷ [] }

-- Returns the links that lead from live transactions other than t.
abbrev pub live_links : ℕ → List ℕ → List Link → List Link
live_links t live links = filter (λ (l : Link). is_among l.from live && not (l.from == t)) links

abbrev pub is_empty : List Link → Bool
is_empty [] = true
is_empty (l ∷ links) = false

-- Returns the graph after a transaction begins with links. If it is closed and has no links, it is dropped immediately.
abbrev pub shape_after_begin : Bool → List Link → Shape → Shape
shape_after_begin is_open links s = record {
  dropped = cond (is_open || not (is_empty links)) s.dropped (s.dropped ++ length s.into ∷ []);
  live = cond (is_open || not (is_empty links)) (s.live ++ length s.into ∷ []) s.live;
  is_open = s.is_open ++ is_open ∷ [];
  into = s.into ++ links ∷ [];
}

-- The invariant of the graph between events.
pub record IsUsable (s : Shape) : Type 0 where
  pub distinct : IsDistinct (λ x y. x == y) s.live
  pub leads : LeadForward (into_in s) s.live
  pub opens : (y : ℕ) → open_in s y ≡ true → IsIn y s.live
  pub live : (y : ℕ) → IsIn y s.live → IsKeptLive s.live (open_in s) (into_in s) y

-- A transaction was closed, and what doesn't stay live was dropped.
pub record IsClosing (t : ℕ) (old new : Shape) : Type 0 where
  pub keeps : ℕ → Bool
  pub left : IsLeft t keeps (order_of old)
  pub dropped : new.dropped ≡ old.dropped ++ filter (λ x. not (keeps x)) old.live
  pub live : new.live ≡ filter keeps old.live
  pub is_open : (y : ℕ) → open_in new y ≡ cond (y == t) false (open_in old y)
  pub into : (y : ℕ) → keeps y ≡ true → into_in new y ≡ into_in old y
  pub slots : length new.into ≡ length old.into

-- Links into transaction t were added.
pub record IsLinking (t : ℕ) (links : List Link) (old new : Shape) : Type 0 where
  pub reaches : ℕ → Bool
  pub reach : IsReach t links reaches (order_of old)
  pub dropped : new.dropped ≡ old.dropped
  pub live : new.live ≡ sides reaches old.live
  pub is_open : new.is_open ≡ old.is_open
  pub into : (y : ℕ) → into_in new y ≡ cond (y == t) (into_in old y ++ links) (into_in old y)
  pub slots : length new.into ≡ length old.into

-- A link closes a cycle: its trail leads back from where it begins to the transaction, and no other link has a shorter
-- one.
pub record ClosesCycle (t : ℕ) (links : List Link) (s : Shape) (c : Closing) : Type 0 where
  pub among : IsIn c.by links
  pub way : IsTrail s.live (into_in s) t c.by.from c.trail.items
  pub shortest : (l : Link) (others : List Link) → IsIn l links → IsTrail s.live (into_in s) t l.from others → length c.trail.items ≤ length others

-- No trail leads back to the transaction from where a link begins.
abbrev pub ClosesNone : ℕ → List Link → Shape → Type 0
ClosesNone t links s = (l : Link) (trail : List Link) → IsIn l links → IsTrail s.live (into_in s) t l.from trail → ⊥

-- A trail leads back to the transaction from where a link begins.
abbrev pub ClosesSome : ℕ → List Link → Shape → Type 0
ClosesSome t links s = (l : Link) × (trail : List Link) × IsIn l links × IsTrail s.live (into_in s) t l.from trail
