use Rattle.std.proofs.Common.{◌≡◌, ◌≤◌, length, take}
use Rattle.jvms_machine.specs.Initialisation.{constants_of, new_texts}
use Rattle.machine_parts.proofs.parts.Parts.new_texts.Given as goal

-- The count is that of the fields before the index.
abbrev pub invariant-loop-i : goal.invariant-loop-i
invariant-loop-i l = record {
  fields : l.field-items ≡ l.class.fields;
  counted : l.count ≡ length (new_texts l.self.state.heap (constants_of (take l.i l.class.fields)));
  few : l.count ≤ l.i;
}
