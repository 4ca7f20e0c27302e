-- The events so far, and those of the items that are left.
use Rattle.std.proofs.Common.{◌≡◌, ◌++◌, drop, map}
use Rattle.std.specs.List.{filter}
use Rattle.velodrome.specs.Transactions.{is_event}
use Rattle.explaining.proofs.event_turns.push_events.Given as goal

abbrev pub invariant-loop-item : goal.invariant-loop-item
invariant-loop-item l =
    l.events.items ++ map (λ i. l.event) (filter is_event (drop l.item-index l.items))
    ≡ l.fn.events.items ++ map (λ i. l.event) (filter is_event l.items)
