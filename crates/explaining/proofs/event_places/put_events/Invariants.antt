-- The places so far, and those of the events that are left.
use Rattle.std.proofs.Common.{◌≡◌, ◌+◌, ◌++◌, drop}
use Rattle.std.specs.String.{string_bytes}
use Rattle.explaining.specs.EventPlaces.{event_places}
use Rattle.explaining.proofs.event_places.put_events.Given as goal

abbrev pub invariant-loop-index : goal.invariant-loop-index
invariant-loop-index l =
    string_bytes l.out
    ++ event_places l.program l.sources.first l.sources.files.now l.pairs (l.index + 1) (drop l.index l.events)
    ≡ string_bytes l.initial.out ++ event_places l.program l.sources.first l.sources.files.now l.pairs 1 l.events
