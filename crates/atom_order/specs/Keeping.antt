-- Defines what is kept of a trace (Velodrome, section 4): an order of its transactions, those that open ones reach at
-- its end, and links between these that represent all edges from them.
use Rattle.std.specs.Prelude.{◌≡◌, ◌≢◌, ℕ, ◌≤◌, ◌==◌, Bool, true, false, not, cond, ◌⊎◌, List, [], ◌∷◌, ◌++◌, length}
use Rattle.std.specs.List.{filter}
use Rattle.velodrome.specs.Cycles.{IsIn, IsEdge}
use Rattle.velodrome.specs.Orders.{AreNumbersTo, NoneLeadsBack}
use Rattle.velodrome.specs.Transactions.{Event}
use Rattle.velodrome.specs.Verdicts.{ArePairNumbers}
use Rattle.atom_order.specs.declared.link.Link.{Link}

-- No link between live transactions leaves the set.
abbrev pub IsClosed : List ℕ → (ℕ → List Link) → (ℕ → Bool) → Type 0
IsClosed live into P = (y : ℕ) (l : Link) → IsIn y live → IsIn l (into y) → P l.from ≡ true → P y ≡ true

-- Links lead from a to b in any number of steps, even none: every set that has a and that links don't leave has b.
abbrev pub Leads : List ℕ → (ℕ → List Link) → ℕ → ℕ → Type 0
Leads live into a b = (P : ℕ → Bool) → IsClosed live into P → P a ≡ true → P b ≡ true

-- Returns the numbers outside of a set, followed by those in it.
abbrev pub sides : (ℕ → Bool) → List ℕ → List ℕ
sides P xs = filter (λ x. not (P x)) xs ++ filter P xs

-- The transaction is open, or a link leads into it from a live one.
abbrev pub IsKeptLive : List ℕ → (ℕ → Bool) → (ℕ → List Link) → ℕ → Type 0
IsKeptLive live is_open into y = (is_open y ≡ true) ⊎ ((l : Link) × IsIn l (into y) × IsIn l.from live)

pub record Order : Type 0 where
  pub dropped : List ℕ
  pub live : List ℕ
  pub is_open : ℕ → Bool
  pub into : ℕ → List Link

pub record IsKept (events : List Event) (transactions : ℕ) (o : Order) : Type 0 where
  pub numbered : (e : Event) → IsIn e events → e.number ≤ length events
  pub counted : AreNumbersTo transactions (o.dropped ++ o.live)
  pub ordered : NoneLeadsBack events (o.dropped ++ o.live)
  pub placed : (e : Event) → IsIn e events → IsIn e.transaction (o.dropped ++ o.live)
  pub opens : (y : ℕ) → o.is_open y ≡ true → IsIn y o.live
  pub live : (y : ℕ) → IsIn y o.live → IsKeptLive o.live o.is_open o.into y
  pub ties : (y : ℕ) (l : Link) → IsIn y o.live → IsIn l (o.into y) → (l.from ≢ y) × ArePairNumbers events l.from y l.pair
  pub covers : (a b : ℕ) → IsIn a o.live → IsEdge events a b → Leads o.live o.into a b

-- Returns the order after transaction t begins. It is open and the last.
abbrev pub with_new : ℕ → Order → Order
with_new t o = record {
  dropped = o.dropped;
  live = o.live ++ t ∷ [];
  is_open = λ y. cond (y == t) true (o.is_open y);
  into = λ y. cond (y == t) [] (o.into y);
}

-- Returns the order with links added into transaction t, and what it reaches moved after the others.
abbrev pub with_links : ℕ → List Link → (ℕ → Bool) → Order → Order
with_links t links P o = record {
  dropped = o.dropped;
  live = sides P o.live;
  is_open = o.is_open;
  into = λ y. cond (y == t) (o.into y ++ links) (o.into y);
}

-- The set has transaction t, no link leaves it, and none leads from it into t.
pub record IsReach (t : ℕ) (links : List Link) (P : ℕ → Bool) (o : Order) : Type 0 where
  pub itself : P t ≡ true
  pub closed : IsClosed o.live o.into P
  pub apart : (l : Link) → IsIn l (o.into t) ⊎ IsIn l links → P l.from ≡ false

-- Returns the order after transaction t is closed and all outside of the set are dropped.
abbrev pub with_drop : ℕ → (ℕ → Bool) → Order → Order
with_drop t P o = record {
  dropped = o.dropped ++ filter (λ x. not (P x)) o.live;
  live = filter P o.live;
  is_open = λ y. cond (y == t) false (o.is_open y);
  into = o.into;
}

-- The set has what open transactions reach after t is closed.
pub record IsLeft (t : ℕ) (P : ℕ → Bool) (o : Order) : Type 0 where
  pub closed : IsClosed o.live o.into P
  pub opens : (y : ℕ) → cond (y == t) false (o.is_open y) ≡ true → P y ≡ true
  pub live : (y : ℕ) → IsIn y o.live → P y ≡ true
      → (cond (y == t) false (o.is_open y) ≡ true) ⊎ ((l : Link) × IsIn l (o.into y) × IsIn l.from o.live × (P l.from ≡ true))
