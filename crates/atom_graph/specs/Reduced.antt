-- Defines the graph of live transactions with the remembered accesses, and how an event changes the two (Velodrome,
-- section 4).
use Rattle.std.specs.Prelude.{◌≡◌, ℕ, ◌<◌, ◌^◌, true, List, [], ◌∷◌, length, Option, Some, None}
use Rattle.jvms_machine.specs.declared.trace.Item.{Item}
use Rattle.velodrome.specs.declared.verdict.Verdict.{Verdict}
use Rattle.velodrome.specs.declared.verdict.Verdict.TheVariants as verdict
use Rattle.atom_order.specs.declared.link.Link.{Link}
use Rattle.atom_order.specs.declared.link.Closing.{Closing}
use Rattle.atom_order.specs.Reaching.{is_among}
use Rattle.atom_order.specs.Shapes.{ClosesCycle, IsClosing, IsLinking, IsUsable, Shape, shape_after_begin, live_links}
use Rattle.atom_order.specs.Trails.{pairs_along, transactions_along}
use Rattle.accesses.specs.Accesses.{AreLinks, IsNoted}
use Rattle.accesses.specs.Rooms.{kept_of}
use Rattle.atom_graph.specs.declared.found.Found.{Found}
use Rattle.atom_graph.specs.declared.reduced.Reduced.{Reduced}
use Rattle.atom_graph.specs.declared.stay.Stay.{Stay}
use Rattle.atom_graph.specs.declared.stay.Stay.TheVariants as stay

-- Neither the graph nor the remembered accesses have changed.
pub record IsLike (old new : Reduced) : Type 0 where
  pub graph : new.graph ≡ old.graph
  pub kept : kept_of new.accesses ≡ kept_of old.accesses

-- The graph has an event's links, and its transaction if the event is the first.
abbrev pub IsGrown : Stay → ℕ → List Link → Shape → Shape → Type 0
IsGrown (stay.Begins is_open) t links old new = (new ≡ shape_after_begin is_open links old) × (length old.is_open ≡ length old.into)
IsGrown stay.KeepsGoing t links old new = IsLinking t links old new

-- A transaction that continues is live.
abbrev pub StaysLive : Stay → ℕ → Shape → Type 0
StaysLive (stay.Begins is_open) t s = Unit {0}
StaysLive stay.KeepsGoing t s = is_among t s.live ≡ true

-- The precondition on the graph for an event.
pub record IsReady (s : Stay) (t : ℕ) (graph : Shape) : Type 0 where
  pub usable : IsUsable graph
  pub slots : length graph.into < 2 ^ 63
  pub live : StaysLive s t graph

-- The precondition on the graph for closing a transaction.
abbrev pub MayClose : Option ℕ → Shape → Type 0
MayClose None graph = Unit {0}
MayClose (Some t) graph = IsUsable graph × (is_among t graph.live ≡ true)

-- An event was added.
pub record IsTaken (number t : ℕ) (s : Stay) (i : Item) (old new : Reduced) : Type 0 where
  pub links : List Link
  pub are : AreLinks (kept_of old.accesses) number i links
  pub grown : IsGrown s t (live_links t old.graph.live links) old.graph new.graph
  pub noted : IsNoted number t i (kept_of old.accesses) (kept_of new.accesses)

-- The cycle that a link closes, as it is shown.
pub record IsFoundBy (number : ℕ) (c : Closing) (f : Found) : Type 0 where
  pub first_at : f.first_at ≡ number
  pub transactions : f.transactions ≡ transactions_along (c.by.from ∷ []) c.trail.items
  pub pairs : f.pairs ≡ pairs_along (c.by.pair ∷ []) c.trail.items

-- One of the links of an event closes a cycle.
pub record IsClosedBy (number t : ℕ) (i : Item) (old : Reduced) (f : Found) : Type 0 where
  pub links : List Link
  pub are : AreLinks (kept_of old.accesses) number i links
  pub closing : Closing
  pub closes : ClosesCycle t (live_links t old.graph.live links) old.graph closing
  pub found : IsFoundBy number closing f

-- A transaction has ended, or none has.
abbrev pub IsOverIn : Option ℕ → Reduced → Reduced → Type 0
IsOverIn None old new = IsLike old new
IsOverIn (Some t) old new = IsClosing t old.graph new.graph × (kept_of new.accesses ≡ kept_of old.accesses)

-- The verdict shows the cycle.
abbrev pub IsShown : Found → Verdict → Type 0
IsShown f v = v ≡ verdict.Cycle f.first_at f.transactions f.pairs
