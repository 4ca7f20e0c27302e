use Rattle.std.proofs.Common.{◌∙◌}
use Rattle.std.proofs.lemmas.Cmp.{nat_list_eq_equiv}
use Rattle.descriptor.proofs.ascii.is_named.Goals as goal

pub returns : goal.returns
returns c = c.is_text.ensures ∙ nat_list_eq_equiv.symm c.args.ascii.now c.args.name.now
