use Rattle.source_grammar_laws.proofs.LinesSaid.{line_said}
use Rattle.source_grammar_laws.proofs.read_statement_is_spelled.Goals as goal

pub returns : goal.returns
returns c = line_said
