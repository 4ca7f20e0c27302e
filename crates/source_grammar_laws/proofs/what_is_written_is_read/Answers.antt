use Rattle.source_grammar_laws.proofs.Runs.{source_read}
use Rattle.source_grammar_laws.proofs.what_is_written_is_read.Goals as goal

pub returns : goal.returns
returns c = source_read
