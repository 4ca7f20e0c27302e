use Rattle.std.proofs.Common.{◌≡◌}
use Rattle.atom_order.specs.Exits.{HasMoreExits}
use Rattle.atom_order.proofs.Exited.{AreNotedTo}
use Rattle.atom_order.proofs.linked_order.changing.note_exits.Given as goal

-- The first links are exits.
abbrev pub invariant-loop-i : goal.invariant-loop-i
invariant-loop-i l = record {
  more : HasMoreExits l.initial.slots.slots l.slots.slots;
  noted : AreNotedTo l.transaction l.first l.links l.i l.slots.slots;
  next : l.slots.next ≡ l.initial.slots.next;
  room : l.slots.room ≡ l.initial.slots.room;
}
