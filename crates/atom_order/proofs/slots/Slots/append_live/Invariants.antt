use Rattle.std.proofs.Common.{◌≡◌, ◌++◌, take}
use Rattle.atom_order.specs.Slots.{numbers_of, live_of}
use Rattle.atom_order.proofs.slots.Slots.append_live.Given as goal

-- The live transactions of the first slots are appended.
abbrev pub invariant-loop-slot : goal.invariant-loop-slot
invariant-loop-slot l = l.list.items ≡ l.initial.list.items ++ live_of (take l.slot-index (numbers_of l.self.slots))
