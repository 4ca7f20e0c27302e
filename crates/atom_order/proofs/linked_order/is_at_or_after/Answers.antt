use Rattle.std.proofs.Common.{sym}
use Rattle.atom_order.specs.Slots.{numbers_of}
use Rattle.atom_order.proofs.Ordered.{behind_is, none_behind}
use Rattle.atom_order.proofs.linked_order.is_at_or_after.Goals as goal

pub returns-in-Some : goal.returns-in-Some
returns-in-Some c = behind_is (numbers_of c.args.slots.now.slots) c.args.transaction c.in-Some.found c.in-Some.ensures.rank c.in-Some.ensures.alone c.args.rank

pub returns-in-None : goal.returns-in-None
returns-in-None c = sym (none_behind (numbers_of c.args.slots.now.slots) c.args.transaction c.args.rank c.in-None.ensures.rank)
