-- The names are the contents of their slices.
use Rattle.source_text.proofs.member.put_catch.Goals as goal

pub returns : goal.returns
returns c = rw (← c.caught_word.ensures, ← c.as_slice.ensures, ← c.as_slice-2.ensures, ← c.as_slice-3.ensures) c.put_line.ensures
