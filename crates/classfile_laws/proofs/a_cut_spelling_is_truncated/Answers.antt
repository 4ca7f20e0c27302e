use Rattle.classfile_laws.proofs.CutClasses.{front_is_truncated}
use Rattle.classfile_laws.proofs.a_cut_spelling_is_truncated.Goals as goal

pub returns : goal.returns
returns c = front_is_truncated
