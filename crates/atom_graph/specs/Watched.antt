-- Defines the search for a cycle: its state, and how an item changes it (Velodrome, section 4).
use Rattle.std.specs.Prelude.{◌≡◌, ℕ, ◌+◌, ◌≤◌, true, ◌↔◌, List, length, take, Option, Some, None}
use Rattle.jvms_machine.specs.declared.trace.Item.{Item}
use Rattle.velodrome.specs.Cycles.{IsFirstAt}
use Rattle.velodrome.specs.Reach.{IsOpen}
use Rattle.velodrome.specs.Transactions.{Event, TraceState}
use Rattle.velodrome.specs.Verdicts.{IsShownCycle}
use Rattle.atom_order.specs.Keeping.{IsKept}
use Rattle.atom_order.specs.Shapes.{Shape, open_in, order_of}
use Rattle.accesses.specs.Accesses.{Last}
use Rattle.accesses.specs.Rooms.{kept_of}
use Rattle.atom_graph.specs.declared.found.Found.{Found}
use Rattle.atom_graph.specs.declared.reduced.Reduced.{Reduced}
use Rattle.atom_graph.specs.declared.stay.Stay.{Stay}
use Rattle.atom_graph.specs.declared.watch.Watch.{Watch}
use Rattle.atom_graph.specs.Reduced.{IsClosedBy, IsLike, IsOverIn, IsTaken}
use Rattle.atom_graph.specs.Suffices.{Suffices}

-- The graph is that of the trace, and the remembered accesses suffice.
pub record IsGraphOf (w : TraceState) (s : Shape) (kept : List Last) : Type 0 where
  pub keeps : IsKept w.events w.transactions (order_of s)
  pub slots : length s.into ≡ w.transactions + 1
  pub opens : (a : ℕ) → (open_in s a ≡ true) ↔ IsOpen w a
  pub suffices : Suffices w.events (order_of s) kept

-- The cycle that is shown is the first of the trace.
pub record IsFoundIn (events : List Event) (f : Found) : Type 0 where
  pub within : f.first_at ≤ length events
  pub first : IsFirstAt events f.first_at
  pub shown : IsShownCycle (take f.first_at events) f.first_at f.transactions f.pairs

-- Until a cycle is found the graph is that of the trace.
abbrev pub IsWatched : TraceState → Reduced → Option Found → Type 0
IsWatched w r None = IsGraphOf w r.graph (kept_of r.accesses)
IsWatched w r (Some f) = IsFoundIn w.events f

-- Nothing has changed.
pub record IsIdle (old new : Watch) : Type 0 where
  pub reduced : IsLike old.reduced new.reduced
  pub found : new.found ≡ old.found

-- An event was added, or it closed a cycle. After a cycle was found, nothing is done.
abbrev pub IsOnFrom : ℕ → ℕ → Stay → Item → Option Found → Option Found → Reduced → Reduced → Type 0
IsOnFrom number t s i None None old new = IsTaken number t s i old new
IsOnFrom number t s i None (Some f) old new = IsClosedBy number t i old f
IsOnFrom number t s i (Some f) found old new = found ≡ Some f

abbrev pub IsOn : ℕ → ℕ → Stay → Item → Watch → Watch → Type 0
IsOn number t s i old new = IsOnFrom number t s i old.found new.found old.reduced new.reduced

abbrev pub HasEndedFrom : Option ℕ → Option Found → Reduced → Reduced → Type 0
HasEndedFrom over None old new = IsOverIn over old new
HasEndedFrom over (Some f) old new = Unit {0}

-- A transaction has ended, or none has. After a cycle was found, nothing is done.
abbrev pub HasEnded : Option ℕ → Watch → Watch → Type 0
HasEnded over old new = HasEndedFrom over old.found old.reduced new.reduced × (new.found ≡ old.found)
