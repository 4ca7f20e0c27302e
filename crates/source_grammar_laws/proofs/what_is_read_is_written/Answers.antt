use Rattle.source_grammar_laws.proofs.Outside.{source_said}
use Rattle.source_grammar_laws.proofs.what_is_read_is_written.Goals as goal

pub returns : goal.returns
returns c = source_said
