use Rattle.trace_text.proofs.OneReading.{one_trace}
use Rattle.trace_text.proofs.laws.a_text_is_of_one_trace.Goals as goal

pub returns : goal.returns
returns c = one_trace
