use Rattle.std.proofs.Common.{◌≡◌, take, map}
use Rattle.jvms_program.specs.Meaning.{field_of}
use Rattle.linker.proofs.field.fields_of.Given as goal

abbrev pub invariant-loop-info : goal.invariant-loop-info
invariant-loop-info l = l.fields.items ≡ map (field_of l.texts l.in_interface) (take l.info-index l.infos)
