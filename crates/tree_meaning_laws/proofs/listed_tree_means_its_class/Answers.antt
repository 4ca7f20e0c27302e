use Rattle.tree_meaning_laws.proofs.Classes.{tree_means}
use Rattle.tree_meaning_laws.proofs.listed_tree_means_its_class.Goals as goal

pub returns : goal.returns
returns c = tree_means
