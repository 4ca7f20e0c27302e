-- Defines the operations of instructions that name members or have several targets.
use Rattle.std.specs.Prelude.{ℕ, List, map}
use Rattle.jvms_file.specs.declared.class_file.Constant.{Constant}
use Rattle.jvms_file.specs.declared.insn.FieldUse.{FieldUse}
use Rattle.jvms_file.specs.declared.insn.Invoke.{Invoke}
use Rattle.jvms_file.specs.declared.insn.TableSwitch.{TableSwitch}
use Rattle.jvms_file.specs.declared.insn.LookupSwitch.{LookupSwitch}
use Rattle.jvms_file.specs.ConstantPool.{entry}
use Rattle.jvms_program.specs.declared.program.FieldReference.{FieldReference}
use Rattle.jvms_program.specs.declared.program.MethodReference.{MethodReference}
use Rattle.jvms_program.specs.Meaning.{field_reference_of, method_reference_of}
use Rattle.jasmin.specs.declared.source.FieldName.{FieldName}
use Rattle.jasmin.specs.declared.source.MethodName.{MethodName}
use Rattle.jasmin.specs.declared.source.Operation.{Operation}
use Rattle.jasmin.specs.declared.source.Operation.TheVariants as operation
use Rattle.listing_spec.specs.TreeOf.{label_of, match_of}

-- Returns the texts of a field's reference. Below, those of a method's.
abbrev pub named_field : FieldReference → FieldName
named_field f = record { class = f.class; name = f.name; descriptor = f.descriptor }

abbrev pub named_method : MethodReference → MethodName
named_method m = record { class = m.class; name = m.name; descriptor = m.descriptor }

abbrev pub field_operation : List Constant → FieldUse → ℕ → Operation
field_operation pool how n = operation.Field how (named_field (field_reference_of pool (entry pool n)))

abbrev pub invoke_operation : List Constant → Invoke → ℕ → Operation
invoke_operation pool how n = operation.Invoke how (named_method (method_reference_of pool (entry pool n)))

abbrev pub table_operation : TableSwitch → Operation
table_operation s = operation.Table (record { low = s.low; labels = map label_of s.targets; default = label_of s.default })

abbrev pub lookup_operation : LookupSwitch → Operation
lookup_operation s = operation.Lookup (record { matches = map match_of s.cases; default = label_of s.default })
