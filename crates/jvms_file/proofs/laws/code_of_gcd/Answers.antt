-- By computing.
use Rattle.std.proofs.Common.{refl}
use Rattle.jvms_file.specs.Bytes.{number}
use Rattle.jvms_file.specs.Instructions.{insn_at, operands_at}
use Rattle.jvms_file.specs.Code.{insns_at_bytes_from, with_places, insns_of}
use Rattle.jvms_file.proofs.laws.code_of_gcd.Goals as goal

pub returns : goal.returns
unfolding number insn_at operands_at insns_at_bytes_from with_places insns_of
returns c = refl
