use Rattle.source_grammar_laws.proofs.Numbers.{number_said}
use Rattle.source_grammar_laws.proofs.what_is_read_is_a_number.Goals as goal

pub returns : goal.returns
returns c = number_said
