-- The places so far, and those among the items that are left.
use Rattle.std.proofs.Common.{◌≡◌, ◌++◌, drop}
use Rattle.velodrome.specs.Transactions.{is_event}
use Rattle.report.specs.CycleTexts.{event_places, places_where}
use Rattle.report.proofs.events.event_places.Given as goal

abbrev pub invariant-loop-place : goal.invariant-loop-place
invariant-loop-place l =
    l.places.items ++ places_where is_event l.place (drop l.place l.items) ≡ event_places l.items
