use Rattle.std.proofs.Common.{◌≡◌, ◌+◌, ◌<◌, ◌^◌, length}
use Rattle.std.specs.List.{fold}
use Rattle.jvms_program.specs.Slots.{slot_of}
use Rattle.classes.specs.Chains.{classes_left}
use Rattle.classes.specs.Slots.{slot_under, up_to}
use Rattle.classes.proofs.SlotLaws.{fields_of}
use Rattle.classes.proofs.list.Classes.slot.Given as goal

abbrev pub decreases-loop-top : goal.decreases-loop-top
decreases-loop-top l = length (classes_left l.up)

-- the slots that are left to count
abbrev pub invariant-loop-top : goal.invariant-loop-top
invariant-loop-top l = record {
  left : slot_of l.self l.class l.field ≡ fold (slot_under l.field) l.slot (classes_left l.up);
  fits : up_to l.slot + fields_of (classes_left l.up) < 2 ^ 64;
}
