use Rattle.atom_spec.proofs.OneReading.{one_specification}
use Rattle.atom_spec.proofs.laws.a_text_is_of_one_specification.Goals as goal

pub returns : goal.returns
returns c = one_specification
