use Rattle.classfile_laws.proofs.Codes.{spelled_insns_are_read}
use Rattle.classfile_laws.proofs.spelled_insns_are_read.Goals as goal

pub returns : goal.returns
returns c = spelled_insns_are_read
