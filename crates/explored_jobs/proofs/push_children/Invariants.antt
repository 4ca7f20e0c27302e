-- The jobs of the next level keep their number of departures.
use Rattle.std.proofs.Common.{◌≡◌}
use Rattle.explored_jobs.proofs.push_children.Given as goal

abbrev pub invariant-loop-departure : goal.invariant-loop-departure
invariant-loop-departure l = l.next.each ≡ l.fn.next.each
