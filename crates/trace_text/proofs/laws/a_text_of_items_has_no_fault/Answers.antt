use Rattle.trace_text.proofs.OneReading.{no_fault}
use Rattle.trace_text.proofs.laws.a_text_of_items_has_no_fault.Goals as goal

pub returns : goal.returns
returns c = no_fault
