-- The kinds in which the elements of arrays are stored (JVMS 6.5 bastore, castore, sastore for the narrow ones, else
-- own).
use Rattle.std.specs.Prelude.{◌≡◌, ◌<◌, ◌==◌, if◌then◌else◌, pos}
use Rattle.jvms_file.specs.declared.descriptor.Primitive.TheVariants as primitive
use Rattle.jvms_file.specs.declared.descriptor.Element.{Element}
use Rattle.jvms_file.specs.declared.descriptor.Element.TheVariants as element
use Rattle.jvms_file.specs.declared.descriptor.FieldType.{FieldType}
use Rattle.jvms_file.specs.declared.insn.Narrow.TheVariants as narrow
use Rattle.jvms_file.specs.Numbers.{narrowed_int}
use Rattle.jvms_machine.specs.declared.value.Value.{Value}
use Rattle.jvms_machine.specs.declared.value.Value.TheVariants as value
use Rattle.array_elements.specs.declared.kind.Kind.{Kind}
use Rattle.array_elements.specs.declared.kind.Kind.TheVariants as kind

abbrev pub kind_of_element : Element → Kind
kind_of_element (element.Object name) = kind.Reference
kind_of_element (element.Primitive primitive.Int) = kind.Int
kind_of_element (element.Primitive primitive.Byte) = kind.Byte
kind_of_element (element.Primitive primitive.Boolean) = kind.Boolean
kind_of_element (element.Primitive primitive.Char) = kind.Char
kind_of_element (element.Primitive primitive.Short) = kind.Short
kind_of_element (element.Primitive primitive.Float) = kind.Nothing
kind_of_element (element.Primitive primitive.Double) = kind.Nothing
kind_of_element (element.Primitive primitive.Long) = kind.Long

-- Returns the kind of the values of a type.
abbrev pub kind_of : FieldType → Kind
kind_of t = if t.dimensions == 0 then kind_of_element t.element else kind.Reference

-- Returns the first value of an element of a kind.
abbrev pub first_of : Kind → Value
first_of kind.Long = value.Long (pos 0)
first_of kind.Reference = value.Null
first_of kind.Nothing = value.Unset
first_of _ = value.Int (pos 0)

-- A value can be an element of a kind: an int that narrowing doesn't change, a long, a reference, or null.
abbrev pub IsOfKind : Kind → Value → Type 0
IsOfKind kind.Int (value.Int n) = Unit {0}
IsOfKind kind.Byte (value.Int n) = narrowed_int narrow.Byte n ≡ n
IsOfKind kind.Boolean (value.Int n) = narrowed_int narrow.Boolean n ≡ n
IsOfKind kind.Char (value.Int n) = narrowed_int narrow.Char n ≡ n
IsOfKind kind.Short (value.Int n) = narrowed_int narrow.Short n ≡ n
IsOfKind kind.Long (value.Long n) = Unit {0}
IsOfKind kind.Reference value.Null = Unit {0}
IsOfKind kind.Reference (value.Reference r) = 0 < r
IsOfKind kind.Nothing value.Unset = Unit {0}
IsOfKind _ _ = ⊥
