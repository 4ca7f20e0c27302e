use Rattle.tree_form_laws.proofs.Listed.{tree_listable}
use Rattle.tree_form_laws.proofs.listed_tree_is_listable.Goals as goal

pub returns : goal.returns
returns c = tree_listable
