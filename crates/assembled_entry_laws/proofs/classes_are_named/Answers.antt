use Rattle.assembled_entry_laws.proofs.Operands.{classes_are_named}
use Rattle.assembled_entry_laws.proofs.classes_are_named.Goals as goal

pub returns : goal.returns
returns c = classes_are_named
