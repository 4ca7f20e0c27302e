use Rattle.classfile_laws.proofs.Switches.{table_aligned}
use Rattle.classfile_laws.proofs.the_default_of_a_tableswitch_is_aligned.Goals as goal

pub returns : goal.returns
returns c = λ pool major pcs pc bytes s. table_aligned pcs pc bytes s
