use Rattle.std.proofs.Common.{◌≡◌, length}
use Rattle.jvms_program.specs.Meaning.{constant_of}
use Rattle.linker.proofs.field.constant_of.Given as goal

abbrev pub invariant-loop-rest : goal.invariant-loop-rest
invariant-loop-rest l = constant_of l.texts l.rest ≡ constant_of l.texts l.fn.attributes

abbrev pub decreases-loop-rest : goal.decreases-loop-rest
decreases-loop-rest l = length l.rest
