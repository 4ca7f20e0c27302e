use Rattle.source_grammar_laws.proofs.Numbers.{number_says}
use Rattle.source_grammar_laws.proofs.what_is_a_number_is_read.Goals as goal

pub returns : goal.returns
returns c = number_says
