use Rattle.classfile_laws.proofs.Switches.{lookup_aligned}
use Rattle.classfile_laws.proofs.the_default_of_a_lookupswitch_is_aligned.Goals as goal

pub returns : goal.returns
returns c = λ pool major pcs pc bytes s. lookup_aligned pcs pc bytes s
