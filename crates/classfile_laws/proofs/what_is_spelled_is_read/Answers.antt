use Rattle.classfile_laws.proofs.Classes.{spelled_is_read}
use Rattle.classfile_laws.proofs.what_is_spelled_is_read.Goals as goal

pub returns : goal.returns
returns c = spelled_is_read
