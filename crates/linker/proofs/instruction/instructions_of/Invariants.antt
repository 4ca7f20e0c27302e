use Rattle.std.proofs.Common.{◌≡◌, take, map}
use Rattle.jvms_program.specs.Meaning.{instruction_of}
use Rattle.linker.proofs.instruction.instructions_of.Given as goal

abbrev pub invariant-loop-insn : goal.invariant-loop-insn
invariant-loop-insn l = l.instructions.items ≡ map (instruction_of l.texts) (take l.insn-index l.insns)
