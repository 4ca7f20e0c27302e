-- The lines so far have been read.
use Rattle.std.proofs.Common.{length}
use Rattle.atom_spec.specs.Parts.{IsReadUpTo}
use Rattle.atom_spec.proofs.reading.lines_of.Given as goal

abbrev pub invariant-loop-line : goal.invariant-loop-line
invariant-loop-line l = IsReadUpTo l.text l.rest l.number l.lines

abbrev pub decreases-loop-line : goal.decreases-loop-line
decreases-loop-line l = length l.rest
