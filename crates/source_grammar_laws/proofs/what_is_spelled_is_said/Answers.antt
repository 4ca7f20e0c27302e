use Rattle.source_grammar_laws.proofs.LinesRead.{statement_is_read}
use Rattle.source_grammar_laws.proofs.what_is_spelled_is_said.Goals as goal

pub returns : goal.returns
returns c = statement_is_read
