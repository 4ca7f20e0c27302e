use Rattle.std.proofs.Common.{◌≡◌, take}
use Rattle.jvms_machine.specs.Actions.{with_constants}
use Rattle.machine_parts.specs.Machine.{with_statics}
use Rattle.machine_parts.proofs.parts.Parts.store_constants.Given as goal

-- The constants of the fields before the index are stored.
abbrev pub invariant-loop-i : goal.invariant-loop-i
invariant-loop-i l = record {
  fields : l.field-items ≡ l.class.fields;
  stored : l.self ≡ with_statics (with_constants l.initial.self.state.heap l.class (take l.i l.field-items) l.initial.self.state.statics) l.initial.self;
}
