-- Defines the form of a source that a text spells: its names, descriptors, numbers and flags are those that a class
-- file requires (JVMS 4, 6.5). The places of labels and the lengths of lists aren't judged here.
use Rattle.std.specs.Prelude.{◌≡◌, ◌<◌, ℕ, ◌-◌, ◌^◌, Bool, true, not, ◌&&◌, ◌||◌, List, [], ◌∷◌, length, Option, Some, None, is_some, IsTrue, ℤ, pos, neg_ℤ, int_le, ◌+ℤ◌}
use Rattle.std.specs.List.{AllByRecursion}
use Rattle.jvms_file.specs.declared.insn.Opcode.TheVariants as opcode
use Rattle.jvms_file.specs.declared.insn.Simple.{Simple}
use Rattle.jvms_file.specs.declared.insn.Invoke.{Invoke}
use Rattle.jvms_file.specs.declared.insn.Invoke.TheVariants as invoke
use Rattle.jvms_file.specs.Names.{is_name, is_class_name, is_method_name, is_initializer_name}
use Rattle.jvms_file.specs.Descriptors.{field_type_of, is_class_entry_name}
use Rattle.jvms_file.specs.Instructions.{is_invocable_name, is_usable_class, is_dimensions, interface_count, is_above}
use Rattle.jvms_file.specs.Members.{is_static, is_abstract, is_interface, is_method_descriptor_for}
use Rattle.jvms_file.specs.Spelling.{IsU1, IsU2, IsOpcode, IsDistinctBy}
use Rattle.jasmin.specs.declared.source.LoadedConstant.{LoadedConstant}
use Rattle.jasmin.specs.declared.source.LoadedConstant.TheVariants as loaded
use Rattle.jasmin.specs.declared.source.BranchWidth.TheVariants as branch_width
use Rattle.jasmin.specs.declared.source.MatchLine.{MatchLine}
use Rattle.jasmin.specs.declared.source.TableLines.{TableLines}
use Rattle.jasmin.specs.declared.source.FieldName.{FieldName}
use Rattle.jasmin.specs.declared.source.MethodName.{MethodName}
use Rattle.jasmin.specs.declared.source.Operation.{Operation}
use Rattle.jasmin.specs.declared.source.Operation.TheVariants as operation
use Rattle.jasmin.specs.declared.source.CodeItem.{CodeItem}
use Rattle.jasmin.specs.declared.source.CodeItem.TheVariants as item
use Rattle.jasmin.specs.declared.source.Caught.{Caught}
use Rattle.jasmin.specs.declared.source.Caught.TheVariants as caught
use Rattle.jasmin.specs.declared.source.CatchLine.{CatchLine}
use Rattle.jasmin.specs.declared.source.FieldConstant.{FieldConstant}
use Rattle.jasmin.specs.declared.source.FieldConstant.TheVariants as constant
use Rattle.jasmin.specs.declared.source.FieldLine.{FieldLine}
use Rattle.jasmin.specs.declared.source.MethodLines.{MethodLines}
use Rattle.jasmin.specs.declared.source.Source.{Source}
use Rattle.jasmin.specs.Statements.{is_int_type, is_long, is_string_type}
use Rattle.jasmin.specs.Reading.{is_field_like, is_method_like}

-- A number in two's complement with this number of bits, not counting the sign bit.
abbrev pub IsSigned : ℕ → ℤ → Type 0
IsSigned bits n = IsTrue (int_le (neg_ℤ (pos (2 ^ bits))) n && int_le n (pos (2 ^ bits - 1)))

abbrev pub IsClassOrArray : List ℕ → Type 0
IsClassOrArray name = IsTrue (is_class_entry_name name)

-- ---- Instructions

abbrev pub IsFormedLoad : LoadedConstant → Type 0
IsFormedLoad (loaded.Integer n) = IsSigned 31 n
IsFormedLoad (loaded.String text) = Unit {0}
IsFormedLoad (loaded.Class name) = IsClassOrArray name

-- A tableswitch has at least one label, and its greatest value fits an int.
abbrev pub IsFormedTable : TableLines → Type 0
IsFormedTable lines =
    IsSigned 31 lines.low × (0 < length lines.labels)
    × IsTrue (int_le (lines.low +ℤ pos (length lines.labels - 1)) (pos (2 ^ 31 - 1)))

-- The values of a lookupswitch fit an int, and each is above the one before it.
abbrev pub IsFormedLookup : Option ℤ → List MatchLine → Type 0
IsFormedLookup last [] = Unit {0}
IsFormedLookup last (m ∷ ms) = IsSigned 31 m.value × IsTrue (is_above last m.value) × IsFormedLookup (Some m.value) ms

abbrev pub IsFormedField : FieldName → Type 0
IsFormedField f = IsClassOrArray f.class × IsTrue (is_name f.name) × IsTrue (is_some (field_type_of f.descriptor))

-- For invokeinterface, the number of units of the arguments with the object fits one byte (JVMS 4.3.3).
abbrev pub IsCounted : Invoke → List ℕ → Type 0
IsCounted invoke.Interface descriptor = (units : ℕ) × (interface_count (Some ([], descriptor)) ≡ Some units) × IsU1 units
IsCounted _ descriptor = Unit {0}

abbrev pub IsFormedMethodName : Invoke → MethodName → Type 0
IsFormedMethodName how m =
    IsClassOrArray m.class × IsTrue (is_method_name m.name) × IsTrue (is_invocable_name how m.name)
    × IsTrue (is_method_descriptor_for true m.descriptor) × IsCounted how m.descriptor

unfoldable pub IsFormedOperation : Operation → Type 0
IsFormedOperation (operation.Alone code) = (s : Simple) × IsOpcode code (opcode.Alone s)
IsFormedOperation (operation.PushByte n) = IsSigned 7 n
IsFormedOperation (operation.PushShort n) = IsSigned 15 n
IsFormedOperation (operation.Constant width c) = IsFormedLoad c
IsFormedOperation (operation.ConstantLong n) = IsSigned 63 n
IsFormedOperation (operation.Local how n) = IsU2 n
IsFormedOperation (operation.Increment n by) = IsU2 n × IsSigned 15 by
IsFormedOperation (operation.Branch branch_width.Short how label) = Unit {0}
IsFormedOperation (operation.Branch branch_width.Wide how label) = (code : ℕ) × IsOpcode code (opcode.BranchWide how)
IsFormedOperation (operation.Table lines) = IsFormedTable lines
IsFormedOperation (operation.Lookup lines) = IsFormedLookup None lines.matches
IsFormedOperation (operation.Field how f) = IsFormedField f
IsFormedOperation (operation.Invoke how m) = IsFormedMethodName how m
IsFormedOperation (operation.Class how name) = IsClassOrArray name × IsTrue (is_usable_class how name)
IsFormedOperation (operation.NewArray type) = Unit {0}
IsFormedOperation (operation.MultiNewArray name count) =
    IsClassOrArray name × IsU1 count × IsTrue (is_dimensions count (Some name))

abbrev pub IsFormedItem : CodeItem → Type 0
IsFormedItem (item.Label name) = Unit {0}
IsFormedItem (item.Operation o) = IsFormedOperation o

-- ---- Members

abbrev pub IsFormedCaught : Caught → Type 0
IsFormedCaught caught.All = Unit {0}
IsFormedCaught (caught.Class name) = IsClassOrArray name

-- A field's constant value is one of its type.
abbrev pub IsFormedValue : List ℕ → Option FieldConstant → Type 0
IsFormedValue descriptor None = Unit {0}
IsFormedValue descriptor (Some (constant.Integer n)) = IsTrue (is_int_type descriptor) × IsSigned 31 n
IsFormedValue descriptor (Some (constant.Long n)) = IsTrue (is_long descriptor) × IsSigned 63 n
IsFormedValue descriptor (Some (constant.String text)) = IsTrue (is_string_type descriptor)

pub record IsFormedFieldLine (f : FieldLine) : Type 0 where
  pub access : IsU2 f.access
  pub name : IsTrue (is_name f.name)
  pub descriptor : IsTrue (is_some (field_type_of f.descriptor))
  pub value : IsFormedValue f.descriptor f.constant

-- The form of a method. A method of an interface is abstract, except `<clinit>`.
pub record IsFormedMethodLines (interface : Bool) (m : MethodLines) : Type 0 where
  pub access : IsU2 m.access
  pub name : IsTrue (is_method_name m.name)
  pub descriptor : IsTrue (is_method_descriptor_for (is_static m.access || is_initializer_name m.name) m.descriptor)
  pub permitted : IsTrue (not interface || is_initializer_name m.name || is_abstract m.access)
  pub throws : AllByRecursion IsClassOrArray m.throws
  pub max_stack : IsU2 m.max_stack
  pub max_locals : IsU2 m.max_locals
  pub catches : AllByRecursion (λ (c : CatchLine). IsFormedCaught c.caught) m.catches
  pub code : AllByRecursion IsFormedItem m.code

-- ---- The source

pub record IsFormed (s : Source) : Type 0 where
  pub access : IsU2 s.access
  pub name : IsTrue (is_class_name s.name)
  pub superclass : IsTrue (is_class_name s.superclass)
  pub interfaces : AllByRecursion (λ name. IsTrue (is_class_name name)) s.interfaces
  pub fields : AllByRecursion IsFormedFieldLine s.fields
  pub distinct_fields : IsDistinctBy (λ (f g : FieldLine). is_field_like g.name g.descriptor f) s.fields
  pub methods : AllByRecursion (IsFormedMethodLines (is_interface s.access)) s.methods
  pub distinct_methods : IsDistinctBy (λ (m n : MethodLines). is_method_like n.name n.descriptor m) s.methods
