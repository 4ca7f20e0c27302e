use Rattle.classfile_laws.proofs.Codes.{read_insns_are_spelled}
use Rattle.classfile_laws.proofs.read_insns_are_spelled.Goals as goal

pub returns : goal.returns
returns c = read_insns_are_spelled
