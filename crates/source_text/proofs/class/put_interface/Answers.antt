-- The name is the content of its slice.
use Rattle.source_text.proofs.class.put_interface.Goals as goal

pub returns : goal.returns
returns c = rw (← c.as_slice.ensures) c.put_line.ensures
