use Rattle.std.proofs.Common.{◌≡◌, ◌+◌, ◌<◌, ◌^◌, true, drop, length, take}
use Rattle.classes.specs.Slots.{AreStartsOf, count_of_all}
use Rattle.classes.proofs.SlotLaws.{fields_of}
use Rattle.classes.proofs.slot_starts.field_starts.Given as goal

-- the starts of the classes so far
abbrev pub invariant-loop-number : goal.invariant-loop-number
invariant-loop-number l = record {
  are : AreStartsOf l.program l.starts.items;
  count_is : length l.starts.items ≡ l.number;
  statics : l.statics ≡ count_of_all true (take l.number l.program);
  fits : l.statics + fields_of (drop l.number l.program) < 2 ^ 64;
}
