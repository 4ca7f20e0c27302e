use Rattle.classfile_laws.proofs.InsnPads.{zero_pads_spell}
use Rattle.classfile_laws.proofs.layout_spells.Goals as goal

pub returns : goal.returns
returns c pool major code is pcs = zero_pads_spell pool major pcs code is
