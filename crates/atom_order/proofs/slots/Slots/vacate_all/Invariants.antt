use Rattle.std.proofs.Common.{◌≡◌, ◌≢◌, not, take}
use Rattle.std.specs.List.{filter}
use Rattle.velodrome.specs.Cycles.{IsIn}
use Rattle.atom_order.specs.declared.slots.Slot.{Slot}
use Rattle.atom_order.specs.Reaching.{is_among}
use Rattle.atom_order.specs.Slots.{numbers_of, live_of}
use Rattle.atom_order.proofs.slots.Slots.vacate_all.Given as goal

-- The slots of the first ones are gaps.
abbrev pub invariant-loop-x : goal.invariant-loop-x
invariant-loop-x l = record {
  live : live_of (numbers_of l.self.slots) ≡ filter (λ x. not (is_among x (take l.x-index l.gone))) (live_of (numbers_of l.initial.self.slots));
  slots : (s : Slot) → IsIn s l.self.slots → s.transaction ≢ 0 → IsIn s l.initial.self.slots;
  next : l.self.next ≡ l.initial.self.next;
}
