use Rattle.classfile_laws.proofs.Classes.{read_is_spelled}
use Rattle.classfile_laws.proofs.what_is_read_is_spelled.Goals as goal

pub returns : goal.returns
returns c = read_is_spelled
