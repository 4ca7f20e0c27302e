use Rattle.std.proofs.Common.{◌≡◌, take}
use Rattle.jvms_machine.specs.Initialisation.{constants_of, new_texts}
use Rattle.machine_parts.proofs.parts.Parts.texts_of.Given as goal

-- The texts are those of the fields before the index.
abbrev pub invariant-loop-i : goal.invariant-loop-i
invariant-loop-i l = record { fields : l.field-items ≡ l.class.fields; listed : l.texts.items ≡ new_texts l.self.state.heap (constants_of (take l.i l.class.fields)) }
