use Rattle.atom_spec.proofs.OneReading.{one_fault}
use Rattle.atom_spec.proofs.laws.a_text_has_one_first_fault.Goals as goal

pub returns : goal.returns
returns c = one_fault
