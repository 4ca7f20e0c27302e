-- Values that are read from a sound state, and that are stored in one.
use Rattle.std.proofs.Common.{◌≡◌, ℕ, zero, suc, ◌+◌, ◌<◌, ◌≤◌, Bool, List, [], ◌∷◌, length, Option, Some, slice_set, refl, ap, ◌∙◌, subst, arith}
use Rattle.std.specs.List.{AllByRecursion, position_from}
use Rattle.std.specs.Map.{lookup}
use Rattle.std.proofs.lemmas.Bool.{cond_both}
use Rattle.std.proofs.lemmas.Option.{none-some, same_Some, slice_get_within}
use Rattle.jvms_machine.specs.declared.value.Value.{Value}
use Rattle.jvms_machine.specs.declared.value.Value.TheVariants as value
use Rattle.jvms_file.specs.declared.descriptor.FieldType.{FieldType}
use Rattle.jvms_program.specs.declared.program.Class.{Class}
use Rattle.jvms_program.specs.declared.key.FieldKey.{FieldKey}
use Rattle.jvms_machine.specs.State.{Object, instance, array, text, class_object, object_at, keys, reference_of, IsReference, IsValue, IsObject}
use Rattle.jvms_program.specs.Slots.{same_key}
use Rattle.jvms_machine.specs.Heap.{stored_as, with_value, with_field, with_element}
use Rattle.jvms_machine.specs.Fields.{fields_of}
use Rattle.jvms_machine.proofs.ListLaws.{all_at, all_set}
use Rattle.jvms_machine.proofs.HeapGrowth.{Becomes}

-- ---- Read values

-- A found field has a value.
pub looked_up_is_value : (heap : List Object) (test : FieldKey → Bool) (fields : List (FieldKey × Value)) (v : Value) → AllByRecursion (λ f. IsValue heap f.1) fields → lookup test fields ≡ Some v → IsValue heap v
looked_up_is_value heap test [] v all is = absurd (none-some v is)
looked_up_is_value heap test (f ∷ fields) v all is =
    cond_both (test f.0) (Some f.1) (lookup test fields) (λ (o : Option Value). o ≡ Some v → IsValue heap v)
    (λ _ first. subst (IsValue heap) (same_Some f.1 v first) all.0)
    (λ _ later. looked_up_is_value heap test fields v all.1 later)
    is

-- The object of a reference is an object.
pub object_is : (program : List Class) (heap : List Object) (r : ℕ) (o : Object) → AllByRecursion (IsObject program heap) heap → object_at heap r ≡ Some o → IsObject program heap o
object_is program heap zero o all is = absurd (none-some o is)
object_is program heap (suc i) o all is = all_at (IsObject program heap) heap i o is all

-- The fields of an object have values.
pub fields_are_values : (program : List Class) (heap : List Object) (o : Object) → IsObject program heap o → AllByRecursion (λ f. IsValue heap f.1) (fields_of o)
fields_are_values program heap (instance class fields) is = is.1
fields_are_values program heap (array class elements) is = tt
fields_are_values program heap (text units) is = tt
fields_are_values program heap (class_object name) is = tt

-- A search of the heap returns a reference.
found_from : (test : Object → Bool) (heap : List Object) (i r : ℕ) → position_from test i heap ≡ Some r → (i ≤ r) × (r < i + length heap)
found_from test [] i r is = absurd (none-some r is)
found_from test (o ∷ heap) i r is =
    cond_both (test o) (Some i) (position_from test (i + 1) heap) (λ (p : Option ℕ). p ≡ Some r → (i ≤ r) × (r < i + length (o ∷ heap)))
    (λ _ first. let same : i ≡ r = same_Some i r first in (omega arith, omega arith))
    (λ _ later. let within = found_from test heap (i + 1) r later in (omega arith, omega arith))
    is

pub found_is_reference : (test : Object → Bool) (heap : List Object) (r : ℕ) → reference_of test heap ≡ Some r → IsReference heap r
found_is_reference test heap r is = let within = found_from test heap 1 r is in (omega arith, omega arith)

-- ---- Stored values

-- The stored form of a value is a value.
pub stored_is_value : (heap : List Object) (t : FieldType) (v : Value) → IsValue heap v → IsValue heap (stored_as t v)
stored_is_value heap t (value.Int n) is = tt
stored_is_value heap t _ is = is

-- Storing a value in fields keeps their keys.
pub keys_stay : (key : FieldKey) (v : Value) (fields : List (FieldKey × Value)) → keys (with_value key v fields) ≡ keys fields
keys_stay key v [] = refl
keys_stay key v (f ∷ fields) =
    cond_both (same_key f.0 key) ((f.0, v) ∷ fields) (f ∷ with_value key v fields) (λ (fs : List (FieldKey × Value)). keys fs ≡ keys (f ∷ fields))
    (λ _. refl)
    (λ _. ap (λ (ks : List FieldKey). f.0 ∷ ks) (keys_stay key v fields))

-- Storing a value in fields keeps that they have values.
pub values_stay : (heap : List Object) (key : FieldKey) (v : Value) (fields : List (FieldKey × Value)) → IsValue heap v → AllByRecursion (λ f. IsValue heap f.1) fields → AllByRecursion (λ f. IsValue heap f.1) (with_value key v fields)
values_stay heap key v [] is all = tt
values_stay heap key v (f ∷ fields) is all =
    cond_both (same_key f.0 key) ((f.0, v) ∷ fields) (f ∷ with_value key v fields) (AllByRecursion (λ f. IsValue heap f.1))
    (λ _. (is, all.1))
    (λ _. (all.0, values_stay heap key v fields is all.1))

-- An object with a value stored in a field is an object of its class.
pub with_field_is : (program : List Class) (heap : List Object) (key : FieldKey) (v : Value) (o : Object) → IsValue heap v → IsObject program heap o → IsObject program heap (with_field key v o)
with_field_is program heap key v (instance class fields) is was = (keys_stay key v fields ∙ was.0, values_stay heap key v fields is was.1)
with_field_is program heap key v (array class elements) is was = was
with_field_is program heap key v (text units) is was = tt
with_field_is program heap key v (class_object name) is was = tt

pub with_field_becomes : (key : FieldKey) (v : Value) (o : Object) → Becomes o (with_field key v o)
with_field_becomes key v (instance class fields) = (with_value key v fields, refl)
with_field_becomes key v (array class elements) = (elements, refl)
with_field_becomes key v (text units) = refl
with_field_becomes key v (class_object name) = refl

-- An object with a value stored in an element is an object of its class.
pub with_element_is : (program : List Class) (heap : List Object) (index : ℕ) (v : Value) (o : Object) → IsValue heap v → IsObject program heap o → IsObject program heap (with_element index v o)
with_element_is program heap index v (instance class fields) is was = was
with_element_is program heap index v (array class elements) is was = all_set (IsValue heap) elements index v is was
with_element_is program heap index v (text units) is was = tt
with_element_is program heap index v (class_object name) is was = tt

pub with_element_becomes : (index : ℕ) (v : Value) (o : Object) → Becomes o (with_element index v o)
with_element_becomes index v (instance class fields) = (fields, refl)
with_element_becomes index v (array class elements) = (slice_set elements index v, refl)
with_element_becomes index v (text units) = refl
with_element_becomes index v (class_object name) = refl

-- A reference with an object is a reference.
pub leads_is_reference : (heap : List Object) (r : ℕ) (o : Object) → object_at heap r ≡ Some o → IsReference heap r
leads_is_reference heap zero o at = absurd (none-some o at)
leads_is_reference heap (suc i) o at = let within = slice_get_within heap i o at in (omega arith, omega arith)
