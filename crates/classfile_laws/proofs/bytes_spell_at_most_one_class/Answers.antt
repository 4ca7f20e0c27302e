use Rattle.classfile_laws.proofs.Classes.{one_class}
use Rattle.classfile_laws.proofs.bytes_spell_at_most_one_class.Goals as goal

pub returns : goal.returns
returns c = one_class
