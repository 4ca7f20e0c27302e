-- Proves both clauses of the law.
use Rattle.run_trace_laws.proofs.RunNames.{files_named, files_again}
use Rattle.run_trace_laws.proofs.laws.run_trace_text_is_read.Goals as goal

pub returns-clause-named : goal.returns-clause-named
returns-clause-named c = files_named

pub returns-clause-again : goal.returns-clause-again
returns-clause-again c = files_again
