-- An entry's arguments are ints, longs, or the empty array of the opening.
use Rattle.jvms_machine.proofs.StartLaws.{entry_is_start}
use Rattle.jvms_machine.proofs.soundness.an_entry_gives_a_start.Goals as goal

pub returns : goal.returns
returns c = λ program entry start is. entry_is_start program entry start is
