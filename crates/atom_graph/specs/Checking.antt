-- Defines what contracts see of a checker, and which items it accepts.
use Rattle.std.specs.Prelude.{◌≡◌, not, ◌&&◌, nat_le, if◌then◌else◌, List, [], ◌∷◌, ◌++◌, length, Option, Some, None, Result, Ok, Err}
use Rattle.jvms_machine.specs.declared.trace.Item.{Item}
use Rattle.velodrome.specs.Specification.{Specification}
use Rattle.velodrome.specs.Transactions.{TraceState, trace_state_of, is_event, is_matched}
use Rattle.atom_graph.specs.declared.fault.FeedFault.{FeedFault}
use Rattle.atom_graph.specs.declared.fault.FeedFault.TheVariants as fault

-- The items that were fed, under a specification.
pub record Fed : Type 0 where
  pub lines : Specification
  pub items : List Item

abbrev pub state_of_fed : Fed → TraceState
state_of_fed fed = trace_state_of fed.lines fed.items

abbrev pub with_item : Item → Fed → Fed
with_item i fed = record { lines = fed.lines; items = fed.items ++ i ∷ [] }

-- Returns why an item is refused: it is an exit of a method other than its thread's innermost open one, or an event
-- past 100,000,000 (own).
abbrev pub fault_of : Fed → Item → Option FeedFault
fault_of fed i =
    if not (is_matched (state_of_fed fed) i) then Some fault.Unmatched
    else if is_event i && nat_le 100000000 (length (state_of_fed fed).events) then Some fault.TooMany
    else None

-- An item is accepted if and only if it has no fault, unless memory runs out. A refused item changes nothing.
abbrev pub IsFeeding : Fed → Item → Result (Unit {0}) FeedFault → Fed → Type 0
IsFeeding old i (Ok done) new = (fault_of old i ≡ None) × (new ≡ with_item i old)
IsFeeding old i (Err fault.Memory) new = new ≡ old
IsFeeding old i (Err why) new = (fault_of old i ≡ Some why) × (new ≡ old)
