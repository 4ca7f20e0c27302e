use Rattle.source_form_laws.proofs.Sources.{source_formed}
use Rattle.source_form_laws.proofs.what_is_read_is_formed.Goals as goal

pub returns : goal.returns
returns c = source_formed
