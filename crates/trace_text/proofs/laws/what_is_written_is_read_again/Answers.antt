use Rattle.trace_text.proofs.OneReading.{read_again}
use Rattle.trace_text.proofs.laws.what_is_written_is_read_again.Goals as goal

pub returns : goal.returns
returns c = read_again
