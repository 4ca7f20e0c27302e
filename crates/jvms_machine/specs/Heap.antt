-- The heap (JVMS 2.4, 2.7): new objects, and changes of existing ones.
use Rattle.std.specs.Prelude.{ℕ, zero, suc, ◌+◌, ◌*◌, ◌-◌, Bool, true, false, not, ◌&&◌, ◌==◌, nat_le, if◌then◌else◌, List, [], ◌∷◌, ◌++◌, length, map, drop, replicate, Option, Some, None, slice_get, slice_set, codes, ℤ}
use Rattle.std.specs.List.{flat_map, range_with_len}
use Rattle.jvms_machine.specs.declared.value.Value.{Value}
use Rattle.jvms_machine.specs.declared.value.Value.TheVariants as value
use Rattle.jvms_machine.specs.declared.machine.Limits.{Limits}
use Rattle.jvms_file.specs.declared.descriptor.Primitive.TheVariants as primitive
use Rattle.jvms_file.specs.declared.insn.Narrow.TheVariants as narrow
use Rattle.jvms_file.specs.Numbers.{narrowed_int}
use Rattle.std.specs.Map.{lookup}
use Rattle.jvms_file.specs.declared.descriptor.Element.{Element}
use Rattle.jvms_file.specs.declared.descriptor.Element.TheVariants as element
use Rattle.jvms_file.specs.declared.descriptor.FieldType.{FieldType}
use Rattle.jvms_file.specs.declared.insn.ArrayType.{ArrayType}
use Rattle.jvms_file.specs.declared.insn.ArrayType.TheVariants as array_type
use Rattle.jvms_program.specs.declared.key.FieldKey.{FieldKey}
use Rattle.jvms_program.specs.Slots.{same_key}
use Rattle.jvms_file.specs.Descriptors.{field_type, is_array_name}
use Rattle.jvms_program.specs.declared.program.Class.{Class}
use Rattle.jvms_machine.specs.State.{State, Object, instance, array, default_value}

-- ---- Room

-- Decides whether `objects` more objects and `elements` more array elements are within the limits.
abbrev pub has_room_for_elements : ℕ → ℕ → Limits → State → Bool
has_room_for_elements objects elements limits s =
    nat_le (length s.heap + objects) limits.objects && nat_le (s.elements + elements) limits.elements

-- Returns the reference of the next object.
abbrev pub next_reference : List Object → ℕ
next_reference heap = length heap + 1

-- ---- Stored values

-- Narrows an int to an element type. Bytes, chars and shorts are narrowed, and of a boolean the lowest bit is kept
-- (own).
abbrev pub narrowed_to : Element → ℤ → ℤ
narrowed_to (element.Primitive primitive.Byte) n = narrowed_int narrow.Byte n
narrowed_to (element.Primitive primitive.Char) n = narrowed_int narrow.Char n
narrowed_to (element.Primitive primitive.Short) n = narrowed_int narrow.Short n
narrowed_to (element.Primitive primitive.Boolean) n = narrowed_int narrow.Boolean n
narrowed_to _ n = n

-- Returns a value in the form that a field, or an array's element, of a type stores.
abbrev pub stored_as : FieldType → Value → Value
stored_as t (value.Int n) = value.Int (if t.dimensions == 0 then narrowed_to t.element n else n)
stored_as t v = v

-- ---- Fields

-- Returns the value of the field of a key.
abbrev pub value_of : FieldKey → List (FieldKey × Value) → Option Value
value_of key fields = lookup (λ k. same_key k key) fields

-- Stores a value in the first field of a key.
abbrev pub with_value : FieldKey → Value → List (FieldKey × Value) → List (FieldKey × Value)
with_value key v [] = []
with_value key v (f ∷ fields) = if same_key f.0 key then (f.0, v) ∷ fields else f ∷ with_value key v fields

-- Stores a value in the field of a key of an object.
abbrev pub with_field : FieldKey → Value → Object → Object
with_field key v (instance class fields) = instance class (with_value key v fields)
with_field key v o = o

-- Stores a value at an index of an array.
abbrev pub with_element : ℕ → Value → Object → Object
with_element index v (array class elements) = array class (slice_set elements index v)
with_element index v o = o

-- Returns the heap with the object of a reference changed.
abbrev pub with_object : List Object → ℕ → (Object → Object) → Option Object → List Object
with_object heap r change None = heap
with_object heap r change (Some o) = slice_set heap (r - 1) (change o)

-- ---- Arrays

-- Returns the class of an array of a component type (JVMS 6.5 `newarray`).
abbrev pub array_of_type : ArrayType → List ℕ
array_of_type array_type.Boolean = codes "[Z"
array_of_type array_type.Char = codes "[C"
array_of_type array_type.Float = codes "[F"
array_of_type array_type.Double = codes "[D"
array_of_type array_type.Byte = codes "[B"
array_of_type array_type.Short = codes "[S"
array_of_type array_type.Int = codes "[I"
array_of_type array_type.Long = codes "[J"

-- Returns the class of an array whose components are of a class (JVMS 6.5 `anewarray`).
abbrev pub array_of_class : List ℕ → List ℕ
array_of_class name = if is_array_name name then codes "[" ++ name else codes "[L" ++ name ++ codes ";"

-- Returns the component type of an array's class.
abbrev pub component_type : List ℕ → FieldType
component_type class = field_type (drop 1 class)

-- Returns the component class of an array of references.
abbrev pub component_class : List ℕ → List ℕ
component_class class = if (component_type class).dimensions == 0 then name_of (component_type class).element else drop 1 class
  where
    name_of : Element → List ℕ
    name_of (element.Object name) = name
    name_of (element.Primitive p) = drop 1 class

-- Returns the default value of an array's elements.
abbrev pub first_element : List ℕ → Value
first_element class = default_value (component_type class)

-- ---- Arrays of arrays (JVMS 6.5 multianewarray)

-- Decides whether a class has this number of array dimensions. The components of all but the innermost arrays are
-- arrays.
abbrev pub has_dimensions : List ℕ → ℕ → Bool
has_dimensions class zero = false
has_dimensions class (suc zero) = true
has_dimensions class (suc (suc more)) = not ((component_type class).dimensions == 0) && has_dimensions (drop 1 class) (suc more)

-- Returns the number of arrays that these lengths make, the outermost first. An array of length 0 has none in it.
abbrev pub arrays_made : List ℕ → ℕ
arrays_made [] = 0
arrays_made (n ∷ []) = 1
arrays_made (n ∷ m ∷ lengths) = 1 + n * arrays_made (m ∷ lengths)

-- Returns the number of their elements.
abbrev pub elements_made : List ℕ → ℕ
elements_made [] = 0
elements_made (n ∷ []) = n
elements_made (n ∷ m ∷ lengths) = n + n * elements_made (m ∷ lengths)

-- Returns the references of `count` parts, each of which takes `size` references.
abbrev pub part_references : ℕ → ℕ → ℕ → List ℕ
part_references first size count = map (λ i. first + i * size) (range_with_len 0 count)

-- Returns an array of these lengths with this reference, and its parts. The array is first, then its parts by rising
-- index, each with its own parts before the next.
abbrev pub new_arrays : ℕ → List ℕ → List ℕ → List Object
new_arrays r class [] = []
new_arrays r class (n ∷ []) = array class (replicate n (first_element class)) ∷ []
new_arrays r class (n ∷ m ∷ lengths) =
    array class (map value.Reference (part_references (r + 1) (arrays_made (m ∷ lengths)) n))
    ∷ flat_map (λ part. new_arrays part (drop 1 class) (m ∷ lengths)) (part_references (r + 1) (arrays_made (m ∷ lengths)) n)

-- ---- Objects of classes

-- Returns the name of the class of a number.
abbrev pub class_name_at : List Class → ℕ → List ℕ
class_name_at program class = name (slice_get program class)
  where
    name : Option Class → List ℕ
    name None = []
    name (Some c) = c.name
