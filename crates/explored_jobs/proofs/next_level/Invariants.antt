-- The jobs of the next level have one departure more than those of this one.
use Rattle.std.proofs.Common.{◌+◌, ◌≡◌}
use Rattle.explored_jobs.proofs.next_level.Given as goal

abbrev pub invariant-loop-index : goal.invariant-loop-index
invariant-loop-index l = l.next.each ≡ l.jobs.each + 1
