use Rattle.std.proofs.Common.{◌≡◌, length}
use Rattle.jvms_program.specs.Meaning.{code_of}
use Rattle.jvms_program.proofs.attributes.code_of.Given as goal

abbrev pub invariant-loop-rest : goal.invariant-loop-rest
invariant-loop-rest l = code_of l.rest ≡ code_of l.fn.attributes

abbrev pub decreases-loop-rest : goal.decreases-loop-rest
decreases-loop-rest l = length l.rest
