use Rattle.tree_form_laws.proofs.Classes.{tree_formed}
use Rattle.tree_form_laws.proofs.listed_tree_is_formed.Goals as goal

pub returns : goal.returns
returns c = tree_formed
