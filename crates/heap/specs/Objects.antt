-- The parts of objects, and stores into them by slots.
use Rattle.std.specs.Prelude.{◌≡◌, ℕ, true, drop, zero, suc, List, [], ◌∷◌, ◌++◌, ◌+◌, length, Option, Some, None, IfSome, IsSome, slice_get}
use Rattle.std.specs.Option.{option_and_then, option_map}
use Rattle.jvms_file.specs.declared.insn.ArrayKind.{ArrayKind}
use Rattle.jvms_program.specs.declared.program.Class.{Class}
use Rattle.jvms_program.specs.declared.key.FieldKey.{FieldKey}
use Rattle.jvms_machine.specs.declared.value.Value.{Value}
use Rattle.jvms_program.specs.Slots.{slot_of}
use Rattle.jvms_machine.specs.State.{Object, instance, array, text, class_object, class_of, object_at}
use Rattle.jvms_machine.specs.Arrays.{serves}
use Rattle.jvms_machine.specs.Heap.{component_type, stored_as, value_of}
use Rattle.array_elements.specs.declared.kind.Kind.TheVariants as kind
use Rattle.array_elements.specs.Kinds.{kind_of, IsOfKind}
use Rattle.heap.specs.Stored.{name_at}

-- Returns the class of the object of a reference.
abbrev pub class_at : List Object → ℕ → Option (List ℕ)
class_at heap r = option_map class_of (object_at heap r)

-- Returns a part of the object of a reference.
abbrev pub object_part : {A : Type 0} → (Object → Option A) → List Object → ℕ → Option A
object_part {A} part heap r = option_and_then part (object_at heap r)

-- The reference is that of an object, and this holds for it.
abbrev pub IfThere : (Object → Type 0) → Option Object → Type 0
IfThere P None = ⊥
IfThere P (Some o) = P o

-- Returns the class of an instance.
abbrev pub instance_class : Object → Option (List ℕ)
instance_class (instance class fields) = Some class
instance_class _ = None

-- The number, if there is one, is that of the class of this name.
abbrev pub IsNumberOf : List Class → Option ℕ → List ℕ → Type 0
IsNumberOf program number name = IfSome number (λ n. name_at program n ≡ name)

-- Returns the class of an array.
abbrev pub array_class : Object → Option (List ℕ)
array_class (array class elements) = Some class
array_class _ = None

-- Returns the number of elements of an array.
abbrev pub length_of : Object → Option ℕ
length_of (array class elements) = Some (length elements)
length_of _ = None

-- Returns an array's element.
abbrev pub element_of : ℕ → Object → Option Value
element_of index (array class elements) = slice_get elements index
element_of index _ = None

-- Returns the units of a string.
abbrev pub units_of : Object → Option (List ℕ)
units_of (text units) = Some units
units_of _ = None

-- Returns the name of the class whose class object an object is.
abbrev pub named_by : Object → Option (List ℕ)
named_by (class_object name) = Some name
named_by _ = None

-- A value can be stored among the elements of an array.
abbrev pub Suits : Value → Object → Type 0
Suits v (array class elements) = IsOfKind (kind_of (component_type class)) v
Suits v _ = Unit {0}

-- An object is an array that an instruction of a kind serves, with this element.
abbrev pub Loads : ArrayKind → ℕ → Value → Object → Type 0
Loads k index v (array class elements) = (serves k (component_type class) ≡ true) × (slice_get elements index ≡ Some v)
Loads k index v _ = ⊥

-- An object is an array that an instruction of a kind serves, with an element at this index. For a value that is stored
-- there, `kept` is the stored one.
abbrev pub Stores : ArrayKind → ℕ → Value → Value → Object → Type 0
Stores k index v kept (array class elements) =
    (serves k (component_type class) ≡ true) × (IsSome (slice_get elements index) × (stored_as (component_type class) v ≡ kept))
Stores k index v kept _ = ⊥

-- The class of an array allows these lengths: the components of all but the innermost arrays are arrays.
abbrev pub HasDimensions : List ℕ → List ℕ → Type 0
HasDimensions class [] = Unit {0}
HasDimensions class (n ∷ []) = Unit {0}
HasDimensions class (n ∷ m ∷ lengths) = (kind_of (component_type class) ≡ kind.Reference) × HasDimensions (drop 1 class) (m ∷ lengths)

-- ---- Fields

-- Returns the value of an instance's field.
abbrev pub field_of : FieldKey → Object → Option Value
field_of key (instance class fields) = value_of key fields
field_of key _ = None

-- Returns the slot of an instance's field.
abbrev pub slot_in : List Class → FieldKey → Object → Option ℕ
slot_in program key (instance class fields) = slot_of program class key
slot_in program key _ = None

-- Returns the value of the field of a slot.
abbrev pub value_in : ℕ → Object → Option Value
value_in slot (instance class fields) = option_map (λ f. f.1) (slice_get fields slot)
value_in slot _ = None

-- Returns the fields with a value in the one of a slot.
abbrev pub with_value_in : ℕ → Value → List (FieldKey × Value) → List (FieldKey × Value)
with_value_in slot v [] = []
with_value_in zero v (f ∷ fields) = (f.0, v) ∷ fields
with_value_in (suc slot) v (f ∷ fields) = f ∷ with_value_in slot v fields

-- Returns an instance with a value in the field of a slot.
abbrev pub with_slot : ℕ → Value → Object → Object
with_slot slot v (instance class fields) = instance class (with_value_in slot v fields)
with_slot slot v o = o

-- ---- The heap

-- The objects of a program's machine, and the number of elements of its arrays.
pub record Heap : Type 0 where
  pub program : List Class
  pub objects : List Object
  pub elements : ℕ

-- Returns a heap with new objects.
abbrev pub with_new : List Object → Heap → Heap
with_new new h = record h { objects = h.objects ++ new }

-- Returns a heap with new arrays, which have `count` elements.
abbrev pub with_arrays : List Object → ℕ → Heap → Heap
with_arrays new count h = record h { objects = h.objects ++ new; elements = h.elements + count }
