use Rattle.classfile_laws.proofs.Classes.{none_begins_another}
use Rattle.classfile_laws.proofs.nothing_spelled_begins_another_spelling.Goals as goal

pub returns : goal.returns
returns c = none_begins_another
