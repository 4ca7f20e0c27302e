use Rattle.code_spelling_laws.proofs.Content.{code_is_spelled}
use Rattle.code_spelling_laws.proofs.assembled_code_is_spelled.Goals as goal

pub returns : goal.returns
returns c = code_is_spelled
