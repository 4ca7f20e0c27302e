use Rattle.std.proofs.Common.{length}
use Rattle.atom_order.proofs.Sweeping.{IsReaching, far_from}
use Rattle.atom_order.proofs.linked_order.LinkedOrder.reached_from.Given as goal

abbrev pub invariant-loop-next : goal.invariant-loop-next
invariant-loop-next l = IsReaching l.self l.fn.transaction l.links l.work.keys l.reached.items

abbrev pub decreases-loop-next : goal.decreases-loop-next
decreases-loop-next l = far_from (length l.self.slots) l.work.keys
