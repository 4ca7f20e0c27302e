use Rattle.std.proofs.Common.{◌≡◌, length}
use Rattle.atom_order.proofs.Sweeping.{IsDropping, far_from}
use Rattle.atom_order.proofs.linked_order.LinkedOrder.gone_from.Given as goal

abbrev pub invariant-loop-next : goal.invariant-loop-next
invariant-loop-next l = record {
  same : l.self ≡ l.initial.self;
  state : IsDropping l.initial.self l.fn.transaction l.is_open l.work.keys l.gone;
}

abbrev pub decreases-loop-next : goal.decreases-loop-next
decreases-loop-next l = far_from (length l.initial.self.slots) l.work.keys
