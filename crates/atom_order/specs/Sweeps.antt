-- Defines what searches forward along links find (own).
use Rattle.std.specs.Prelude.{◌≡◌, ℕ, ◌==◌, Bool, true, false, not, ◌&&◌, ◌⊎◌, if◌then◌else◌, List, [], ◌∷◌, Some, get_or}
use Rattle.velodrome.specs.Cycles.{IsIn}
use Rattle.atom_order.specs.declared.link.Link.{Link}
use Rattle.atom_order.specs.declared.slots.Exit.{Exit}
use Rattle.atom_order.specs.Exits.{links_at, source_at}
use Rattle.atom_order.specs.Keeping.{Order, IsReach, IsLeft}
use Rattle.atom_order.specs.Marking.{has_key}
use Rattle.atom_order.specs.Reaching.{is_among, ArePart}
use Rattle.atom_order.specs.LinkedOrder.{Ranked}
use Rattle.atom_order.specs.Slots.{IsRank}

-- Returns the rest of a list from x on.
abbrev pub from_on : ℕ → List ℕ → List ℕ
from_on x [] = []
from_on x (y ∷ ys) = if y == x then y ∷ ys else from_on x ys

-- A link leads from a transaction by the exit, to the live one at the rank, and that one isn't left out.
pub record IsEnd (exit : Exit) (from : ℕ) (o : Ranked) (left_out : List Bool) (k : ℕ) : Type 0 where
  pub rank : IsRank o.slots exit.to k
  pub link : source_at (links_at o.into exit.to) exit.link ≡ Some from
  pub stays : get_or left_out exit.to false ≡ false

-- The rank of an exit's end was added to a set.
pub record HasEntered (exit : Exit) (from : ℕ) (o : Ranked) (left_out : List Bool) (old new : List ℕ) : Type 0 where
  pub stays : (k : ℕ) → has_key old k ≡ true → has_key new k ≡ true
  pub enters : (k : ℕ) → IsEnd exit from o left_out k → has_key new k ≡ true
  pub since : (k : ℕ) → has_key new k ≡ true → (has_key old k ≡ true) ⊎ IsEnd exit from o left_out k

-- The ranks in a set, after those were added of what links lead to from transaction x, but for what is left out.
pub record IsFollowed (x : ℕ) (o : Ranked) (left_out : List Bool) (old new : List ℕ) : Type 0 where
  pub stays : (k : ℕ) → has_key old k ≡ true → has_key new k ≡ true
  pub enters : (y k : ℕ) (l : Link) → IsRank o.slots y k → IsIn l (links_at o.into y) → l.from ≡ x → get_or left_out y false ≡ false → has_key new k ≡ true
  pub since : (k : ℕ) → has_key new k ≡ true → (has_key old k ≡ true) ⊎ ((y : ℕ) × (l : Link) × IsRank o.slots y k × IsIn l (links_at o.into y) × (l.from ≡ x) × (get_or left_out y false ≡ false))

-- Transaction t reaches these, in order, and none of the links leads from one of them.
pub record AreReached (t : ℕ) (links : List Link) (o : Order) (reached : List ℕ) : Type 0 where
  pub part : ArePart reached o.live
  pub reach : IsReach t links (λ x. is_among x reached) o

-- These don't stay live after transaction t is closed, in order.
pub record AreGone (t : ℕ) (o : Order) (gone : List ℕ) : Type 0 where
  pub part : ArePart gone o.live
  pub left : IsLeft t (λ x. is_among x o.live && not (is_among x gone)) o
