use Rattle.std.proofs.Common.{ap, reverse}
use Rattle.machine_text.proofs.Reversed.{map-reverse}
use Rattle.machine_text.proofs.chain.classes_from_top.Goals as goal

pub returns : goal.returns
returns c = rw (c.reverse.ensures.items, map-reverse) (ap reverse c.in_ok-classes.ensures)
