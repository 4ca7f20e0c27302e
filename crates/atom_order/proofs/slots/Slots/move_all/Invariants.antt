use Rattle.std.proofs.Common.{◌≡◌, ◌≢◌, ◌+◌, ◌++◌, not, take, length}
use Rattle.std.specs.List.{filter}
use Rattle.velodrome.specs.Cycles.{IsIn}
use Rattle.atom_order.specs.declared.slots.Slot.{Slot}
use Rattle.atom_order.specs.Reaching.{is_among}
use Rattle.atom_order.specs.Slots.{numbers_of, live_of}
use Rattle.atom_order.proofs.slots.Slots.move_all.Given as goal

-- The slots of the first ones are after the others.
abbrev pub invariant-loop-x : goal.invariant-loop-x
invariant-loop-x l = record {
  live : live_of (numbers_of l.self.slots) ≡ filter (λ x. not (is_among x (take l.x-index l.moved))) (live_of (numbers_of l.initial.self.slots)) ++ take l.x-index l.moved;
  slots : (s : Slot) → IsIn s l.self.slots → s.transaction ≢ 0 → IsIn s l.initial.self.slots;
  len : length l.self.slots ≡ length l.initial.self.slots + l.x-index;
  next : l.self.next ≡ l.initial.self.next;
  room : l.self.room ≡ l.initial.self.room;
}
