-- Defines the class file that a source is assembled to, of version 49.0, or the fault. The entries of its constant pool
-- are numbered by first use, in this order: the class, its superclass, its interfaces, the fields and the methods. A
-- field has its name, its descriptor, and the text `ConstantValue` with its value. A method has its name, its
-- descriptor, the text `Code`, what its instructions name, and what its catches name. The text `Exceptions` with its
-- classes follows.
use Rattle.std.specs.Prelude.{ℕ, not, if◌then◌else◌, List, [], ◌∷◌, ◌++◌, Option, Some, None, Result, Ok, codes}
use Rattle.jvms_file.specs.declared.class_file.Constant.{Constant}
use Rattle.jvms_file.specs.declared.class_file.FieldAttribute.{FieldAttribute}
use Rattle.jvms_file.specs.declared.class_file.FieldAttribute.TheVariants as field_attribute
use Rattle.jvms_file.specs.declared.class_file.MethodAttribute.{MethodAttribute}
use Rattle.jvms_file.specs.declared.class_file.MethodAttribute.TheVariants as method_attribute
use Rattle.jvms_file.specs.declared.class_file.FieldInfo.{FieldInfo}
use Rattle.jvms_file.specs.declared.class_file.MethodInfo.{MethodInfo}
use Rattle.jvms_file.specs.declared.class_file.ClassFile.{ClassFile}
use Rattle.jvms_file.specs.Results.{◌>>=◌, want}
use Rattle.jasmin.specs.declared.source.FieldConstant.{FieldConstant}
use Rattle.jasmin.specs.declared.source.FieldConstant.TheVariants as constant
use Rattle.jasmin.specs.declared.source.FieldLine.{FieldLine}
use Rattle.jasmin.specs.declared.source.MethodLines.{MethodLines}
use Rattle.jasmin.specs.declared.source.Source.{Source}
use Rattle.jasmin.specs.Denote.{has_code}
use Rattle.jasmin.specs.Assembling.{has_undefined_label, repeats_label, has_bad_range, has_too_many}
use Rattle.pool_entries.specs.declared.fault.EntryFault.{EntryFault}
use Rattle.pool_entries.specs.Entries.{text_entry, class_entry, string_entry, integer_entry, long_entry}
use Rattle.assembly.specs.declared.fault.AsmFault.{AsmFault}
use Rattle.assembly.specs.declared.fault.AsmFault.TheVariants as fault
use Rattle.assembly.specs.Faults.{with_source_fault}
use Rattle.assembly.specs.Operands.{operands_onto, catches_onto, classes_onto}
use Rattle.assembly.specs.CodeOf.{code_within}

-- ---- Fields

abbrev pub value_entry : List Constant → FieldConstant → Result (ℕ × List Constant) EntryFault
value_entry pool (constant.Integer n) = integer_entry pool n
value_entry pool (constant.Long n) = long_entry pool n
value_entry pool (constant.String text) = string_entry pool text

-- Returns the ConstantValue attribute of a field that has a value (JVMS 4.7.2).
unfoldable pub field_attributes : List Constant → Option FieldConstant → Result (List FieldAttribute × List Constant) EntryFault
field_attributes pool None = Ok ([], pool)
field_attributes pool (Some c) = do
  name ← text_entry pool (codes "ConstantValue")
  value ← value_entry name.1 c
  Ok (field_attribute.ConstantValue name.0 value.0 ∷ [], value.1)

unfoldable pub field_info : List Constant → FieldLine → Result (FieldInfo × List Constant) EntryFault
field_info pool f = do
  name ← text_entry pool f.name
  descriptor ← text_entry name.1 f.descriptor
  attributes ← field_attributes descriptor.1 f.constant
  Ok (record { access = f.access; name = name.0; descriptor = descriptor.0; attributes = attributes.0 }, attributes.1)

-- Appends the infos of fields to those before.
unfoldable pub fields_onto : List FieldInfo → List Constant → List FieldLine → Result (List FieldInfo × List Constant) EntryFault
fields_onto seen pool [] = Ok (seen, pool)
fields_onto seen pool (f ∷ fs) = do
  info ← field_info pool f
  fields_onto (seen ++ info.0 ∷ []) info.1 fs

-- ---- Methods

-- Judges the labels of a method. Each is defined once. Each that is referred to marks an instruction, or the code's end
-- if it ends a range. Each range contains an instruction.
unfoldable pub judge_labels : MethodLines → Result (Unit {0}) AsmFault
judge_labels m = do
  _ ← want (not (repeats_label m.code)) fault.RepeatedLabel
  _ ← want (not (has_undefined_label m)) fault.UndefinedLabel
  want (not (has_bad_range m)) fault.CatchRange

-- Returns the Code attribute of a method (JVMS 4.7.3).
unfoldable pub code_attribute : List Constant → MethodLines → Result (MethodAttribute × List Constant) AsmFault
code_attribute pool m = do
  name ← with_source_fault (text_entry pool (codes "Code"))
  operands ← with_source_fault (operands_onto [] name.1 m.code)
  caught ← with_source_fault (catches_onto [] operands.1 m.catches)
  code ← code_within operands.0 caught.0 m
  Ok (method_attribute.Code name.0 code, caught.1)

-- Returns the Code attribute of a method that has one. A native or abstract method has none, except `<clinit>`.
unfoldable pub code_attributes : List Constant → MethodLines → Result (List MethodAttribute × List Constant) AsmFault
code_attributes pool m =
    if has_code m.name m.access
    then (code_attribute pool m >>= λ a. Ok (a.0 ∷ [], a.1))
    else Ok ([], pool)

-- Returns the Exceptions attribute of a method that throws some (JVMS 4.7.5).
unfoldable pub throws_attributes : List Constant → List (List ℕ) → Result (List MethodAttribute × List Constant) EntryFault
throws_attributes pool [] = Ok ([], pool)
throws_attributes pool (class ∷ classes) = do
  name ← text_entry pool (codes "Exceptions")
  numbers ← classes_onto [] name.1 (class ∷ classes)
  Ok (method_attribute.Exceptions name.0 numbers.0 ∷ [], numbers.1)

-- Returns the info of a method. Its Code attribute precedes its Exceptions attribute.
unfoldable pub method_info : List Constant → MethodLines → Result (MethodInfo × List Constant) AsmFault
method_info pool m = do
  _ ← judge_labels m
  name ← with_source_fault (text_entry pool m.name)
  descriptor ← with_source_fault (text_entry name.1 m.descriptor)
  code ← code_attributes descriptor.1 m
  throws ← with_source_fault (throws_attributes code.1 m.throws)
  Ok (record { access = m.access; name = name.0; descriptor = descriptor.0; attributes = code.0 ++ throws.0 }, throws.1)

unfoldable pub methods_onto : List MethodInfo → List Constant → List MethodLines → Result (List MethodInfo × List Constant) AsmFault
methods_onto seen pool [] = Ok (seen, pool)
methods_onto seen pool (m ∷ ms) = do
  info ← method_info pool m
  methods_onto (seen ++ info.0 ∷ []) info.1 ms

-- ---- The class

unfoldable pub class_file_of : Source → Result ClassFile AsmFault
class_file_of s = do
  _ ← want (not (has_too_many s)) fault.TooMany
  this_class ← with_source_fault (class_entry [] s.name)
  super_class ← with_source_fault (class_entry this_class.1 s.superclass)
  interfaces ← with_source_fault (classes_onto [] super_class.1 s.interfaces)
  fields ← with_source_fault (fields_onto [] interfaces.1 s.fields)
  methods ← methods_onto [] fields.1 s.methods
  Ok (record { minor = 0; major = 49; pool = methods.1; access = s.access; this_class = this_class.0; super_class = super_class.0; interfaces = interfaces.0; fields = fields.0; methods = methods.0; attributes = [] })
