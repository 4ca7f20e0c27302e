use Rattle.std.proofs.Common.{◌≡◌, [], length}
use Rattle.descriptor.specs.Scanning.{parameters_after}
use Rattle.descriptor.proofs.method.parameters_at.Given as goal

abbrev pub invariant-loop-first : goal.invariant-loop-first
invariant-loop-first l = parameters_after l.found l.rest ≡ parameters_after [] l.text

abbrev pub decreases-loop-first : goal.decreases-loop-first
decreases-loop-first l = length l.rest
