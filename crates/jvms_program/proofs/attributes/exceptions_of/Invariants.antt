use Rattle.std.proofs.Common.{◌≡◌, length}
use Rattle.jvms_program.specs.Meaning.{exceptions_of}
use Rattle.jvms_program.proofs.attributes.exceptions_of.Given as goal

abbrev pub invariant-loop-rest : goal.invariant-loop-rest
invariant-loop-rest l = exceptions_of l.rest ≡ exceptions_of l.fn.attributes

abbrev pub decreases-loop-rest : goal.decreases-loop-rest
decreases-loop-rest l = length l.rest
