use Rattle.std.proofs.Common.{take}
use Rattle.atom_order.proofs.Followed.{AreFollowed}
use Rattle.atom_order.proofs.linked_order.LinkedOrder.follow.Given as goal

-- The ends of the first exits are in the set.
abbrev pub invariant-loop-exit : goal.invariant-loop-exit
invariant-loop-exit l = AreFollowed (take l.exit-index l.exit-items) l.from l.self l.left_out l.initial.work.keys l.work.keys
