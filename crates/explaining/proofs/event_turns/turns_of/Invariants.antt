-- The turns so far.
use Rattle.std.proofs.Common.{◌≡◌, map, take}
use Rattle.explaining.proofs.event_turns.turns_of.Given as goal

abbrev pub invariant-loop-event : goal.invariant-loop-event
invariant-loop-event l = l.turns.items ≡ map (λ e. e.turn) (take l.event-index l.events)
