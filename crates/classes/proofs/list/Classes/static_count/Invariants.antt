use Rattle.std.proofs.Common.{◌≡◌, ◌+◌, ◌<◌, ◌^◌, drop, length}
use Rattle.jvms_program.specs.Slots.{static_keys}
use Rattle.classes.proofs.SlotLaws.{fields_of}
use Rattle.classes.proofs.list.Classes.static_count.Given as goal

-- the slots that are left to count
abbrev pub invariant-loop-class : goal.invariant-loop-class
invariant-loop-class l = record {
  left : length (static_keys l.self) ≡ l.count + length (static_keys (drop l.class-index l.class-items));
  fits : l.count + fields_of (drop l.class-index l.class-items) < 2 ^ 64;
}
