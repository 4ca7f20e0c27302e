use Rattle.class_spelling_laws.proofs.Class.{class_is_spelled}
use Rattle.class_spelling_laws.proofs.assembled_class_is_spelled.Goals as goal

pub returns : goal.returns
returns c = class_is_spelled
