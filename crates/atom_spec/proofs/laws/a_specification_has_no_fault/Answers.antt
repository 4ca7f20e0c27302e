use Rattle.atom_spec.proofs.OneReading.{no_fault}
use Rattle.atom_spec.proofs.laws.a_specification_has_no_fault.Goals as goal

pub returns : goal.returns
returns c = no_fault
