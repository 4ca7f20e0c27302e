use Rattle.class_meaning_laws.proofs.Classes.{assembled_means}
use Rattle.class_meaning_laws.proofs.assembled_class_means_its_source.Goals as goal

pub returns : goal.returns
returns c = assembled_means
