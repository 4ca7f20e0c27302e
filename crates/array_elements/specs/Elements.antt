-- The elements of an array as values (JVMS 6.5 newarray, anewarray). Their storage is own.
use Rattle.std.specs.Prelude.{ℕ, zero, suc, List, map, replicate, pos}
use Rattle.jvms_machine.specs.declared.value.Value.{Value}
use Rattle.jvms_machine.specs.declared.value.Value.TheVariants as value
use Rattle.array_elements.specs.declared.kind.Kind.{Kind}
use Rattle.array_elements.specs.declared.kind.Kind.TheVariants as kind
use Rattle.array_elements.specs.declared.elements.Elements.{Elements}
use Rattle.array_elements.specs.declared.elements.Elements.TheVariants as elements

-- Returns the value of a reference that is stored as its number. Null is stored as 0.
abbrev pub reference_value : ℕ → Value
reference_value zero = value.Null
reference_value (suc r) = value.Reference (suc r)

abbrev pub values_of : Elements → List Value
values_of (elements.Ints v) = map value.Int v.items
values_of (elements.Bytes v) = map value.Int v.items
values_of (elements.Booleans v) = map (λ n. value.Int (pos n)) v.items
values_of (elements.Chars v) = map (λ n. value.Int (pos n)) v.items
values_of (elements.Shorts v) = map value.Int v.items
values_of (elements.Longs v) = map value.Long v.items
values_of (elements.References v) = map reference_value v.items
values_of (elements.Nothing count) = replicate count value.Unset

abbrev pub elements_kind : Elements → Kind
elements_kind (elements.Ints v) = kind.Int
elements_kind (elements.Bytes v) = kind.Byte
elements_kind (elements.Booleans v) = kind.Boolean
elements_kind (elements.Chars v) = kind.Char
elements_kind (elements.Shorts v) = kind.Short
elements_kind (elements.Longs v) = kind.Long
elements_kind (elements.References v) = kind.Reference
elements_kind (elements.Nothing count) = kind.Nothing
