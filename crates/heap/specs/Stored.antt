-- The objects as they are stored (own).
use Rattle.std.specs.Prelude.{◌≡◌, ℕ, ◌<◌, ◌^◌, List, [], ◌∷◌, length, map, unwrap_or, slice_get}
use Rattle.std.specs.Option.{option_map}
use Rattle.std.specs.List.{AllByRecursion}
use Rattle.jvms_program.specs.declared.program.Class.{Class}
use Rattle.jvms_program.specs.declared.key.FieldKey.{FieldKey}
use Rattle.jvms_machine.specs.declared.value.Value.{Value}
use Rattle.jvms_machine.specs.State.{Object, instance, array, text, class_object, instance_fields, is_text, is_class_object, text_reference, class_reference}
use Rattle.jvms_machine.specs.Heap.{component_type}
use Rattle.array_elements.specs.Kinds.{kind_of, IsOfKind}
use Rattle.array_elements.specs.Elements.{values_of, elements_kind}
use Rattle.text_index.specs.Lookup.{indexed_reference}
use Rattle.heap.specs.declared.stored_object.StoredObject.{StoredObject}
use Rattle.heap.specs.declared.stored_object.StoredObject.TheVariants as stored

-- Returns the name of the class of a number.
abbrev pub name_at : List Class → ℕ → List ℕ
name_at program class = unwrap_or (option_map (λ c. c.name) (slice_get program class)) []

-- Returns fields with these values, in order.
abbrev pub with_values : List (FieldKey × Value) → List Value → List (FieldKey × Value)
with_values [] vs = []
with_values (f ∷ fields) [] = f ∷ with_values fields []
with_values (f ∷ fields) (v ∷ vs) = (f.0, v) ∷ with_values fields vs

-- Returns the object that a stored one is.
abbrev pub object_of : List Class → StoredObject → Object
object_of program (stored.Instance class values) = instance (name_at program class) (with_values (instance_fields program (name_at program class)) values.items)
object_of program (stored.Array class elements) = array class (values_of elements)
object_of program (stored.Text units) = text units
object_of program (stored.ClassObject name) = class_object name

-- The form of a stored object. An instance has a value for each field of its class. An array's elements are stored by
-- the kind of its components, and their number is an int.
abbrev pub IsKept : List Class → StoredObject → Type 0
IsKept program (stored.Instance class values) = length values.items ≡ length (instance_fields program (name_at program class))
IsKept program (stored.Array class elements) = (elements_kind elements ≡ kind_of (component_type class)) × (length (values_of elements) < 2 ^ 31)
IsKept program _ = Unit {0}

-- An object that is neither a string nor a class object.
abbrev pub IsPlain : StoredObject → Type 0
IsPlain (stored.Instance class values) = Unit {0}
IsPlain (stored.Array class elements) = Unit {0}
IsPlain _ = ⊥

-- An object becomes another by a change that affects neither strings nor class objects.
pub record Becomes (change : Object → Object) (program : List Class) (before after : StoredObject) : Type 0 where
  pub shows : object_of program after ≡ change (object_of program before)
  pub kept : IsKept program after
  pub text_stays : (units : List ℕ) → is_text units (object_of program after) ≡ is_text units (object_of program before)
  pub class_stays : (name : List ℕ) → is_class_object name (object_of program after) ≡ is_class_object name (object_of program before)

-- Two stored objects denote the same object in every program. If the first is well formed, so is the second.
pub record AreAlike (a b : StoredObject) : Type 0 where
  pub show : (program : List Class) → object_of program a ≡ object_of program b
  pub kept : (program : List Class) → IsKept program a → IsKept program b

-- The objects of two lists are pairwise alike.
abbrev pub AllAlike : List StoredObject → List StoredObject → Type 0
AllAlike [] [] = Unit {0}
AllAlike (x ∷ xs) (y ∷ ys) = AreAlike x y × AllAlike xs ys
AllAlike _ _ = ⊥

-- A value can be stored among the elements.
abbrev pub AcceptsStored : Value → StoredObject → Type 0
AcceptsStored v (stored.Array class elements) = IsOfKind (elements_kind elements) v
AcceptsStored v _ = Unit {0}

-- All objects are well formed, and strings and class objects are found.
pub record AreStored (program : List Class) (objects : List StoredObject) (texts classes : List (List ℕ × ℕ)) : Type 0 where
  pub kept : AllByRecursion (IsKept program) objects
  pub finds_texts : (units : List ℕ) → indexed_reference texts units ≡ text_reference (map (object_of program) objects) units
  pub finds_classes : (name : List ℕ) → indexed_reference classes name ≡ class_reference (map (object_of program) objects) name
