-- Heaps that extend another: each object still exists, perhaps with other values in its fields or elements.
use Rattle.jvms_file.specs.Descriptors.{field_type, units_of}
use Rattle.jvms_file.specs.Names.{same_text}
use Rattle.jvms_machine.proofs.HeapGrowth.{Becomes, becomes_itself}
use Rattle.jvms_machine.specs.Fields.{fields_of}
use Rattle.jvms_machine.specs.Heap.{value_of, with_value}
use Rattle.jvms_machine.specs.Places.{value_size}
use Rattle.jvms_machine.specs.State.{IsObject, IsReference, Object, array, class_object, class_of, instance, is_class_object, keys, object_at, text}
use Rattle.jvms_machine.specs.declared.value.Value.{Value}
use Rattle.jvms_program.specs.Slots.{same_key}
use Rattle.jvms_program.specs.declared.key.FieldKey.{FieldKey}
use Rattle.jvms_program.specs.declared.program.Class.{Class}
use Rattle.std.proofs.Common.{Bool, List, None, Option, Some, [], ap, arith, cond, false, inl, inr, is_some, length, refl, slice_get, slice_set, subst, suc, sym, true, zero, ℕ, ◌&&◌, ◌++◌, ◌<◌, ◌∙◌, ◌∷◌, ◌≡◌, ◌⊎◌}
use Rattle.std.proofs.lemmas.Bool.{and_parts, cond_both}
use Rattle.std.proofs.lemmas.Option.{same_Some}
use Rattle.std.specs.Cmp.Lexicographic.{same_text as texts_are_same}
use Rattle.std.specs.List.{AllByRecursion}
use Rattle.std.specs.Map.{lookup}

-- ---- The sizes of fields

-- A value has the size of the one before, or that of the type of its field.
abbrev pub IsSized : FieldKey → Option Value → Option Value → Type 0
IsSized key (Some was) (Some now) = (value_size now ≡ value_size was) ⊎ (value_size now ≡ units_of (field_type key.descriptor))
IsSized key _ _ = Unit {0}

abbrev pub AreSized : List (FieldKey × Value) → List (FieldKey × Value) → Type 0
AreSized fields others = (key : FieldKey) → IsSized key (value_of key fields) (value_of key others)

sized_itself : (key : FieldKey) (o : Option Value) → IsSized key o o
sized_itself key None = tt
sized_itself key (Some v) = inl refl

pub fields_themselves : (fields : List (FieldKey × Value)) → AreSized fields fields
fields_themselves fields = λ key. sized_itself key (value_of key fields)

same_descriptor : (a b : FieldKey) → same_key a b ≡ true → a.descriptor ≡ b.descriptor
same_descriptor a b same =
    let others = and_parts (same_text a.class b.class) (same_text a.name b.name && same_text a.descriptor b.descriptor) same in
    texts_are_same a.descriptor b.descriptor (sym (and_parts (same_text a.name b.name) (same_text a.descriptor b.descriptor) others.1).1)

-- A stored value of its field's type keeps the sizes.
pub written_sized : (key : FieldKey) (v : Value) (fields : List (FieldKey × Value)) → value_size v ≡ units_of (field_type key.descriptor) → AreSized fields (with_value key v fields)
written_sized key v [] size = λ k. tt
written_sized key v (f ∷ fields) size = λ k.
    cond_both (same_key f.0 key) ((f.0, v) ∷ fields) (f ∷ with_value key v fields) (λ (fs : List (FieldKey × Value)). IsSized k (value_of k (f ∷ fields)) (value_of k fs))
    (λ same. first_written k same (same_key f.0 k) refl)
    (λ _. later_written k (same_key f.0 k) (written_sized key v fields size k))
  where
    first_written : (k : FieldKey) → same_key f.0 key ≡ true → (b : Bool) → same_key f.0 k ≡ b → IsSized k (cond b (Some f.1) (value_of k fields)) (cond b (Some v) (value_of k fields))
    first_written k same true is = inr (size ∙ ap (λ d. units_of (field_type d)) (sym (same_descriptor f.0 key same) ∙ same_descriptor f.0 k is))
    first_written k same false is = sized_itself k (value_of k fields)

    later_written : (k : FieldKey) (b : Bool) → IsSized k (value_of k fields) (value_of k (with_value key v fields)) → IsSized k (cond b (Some f.1) (value_of k fields)) (cond b (Some f.1) (value_of k (with_value key v fields)))
    later_written k true more = inl refl
    later_written k false more = more

-- ---- Heaps

-- Each object of a heap still exists, with fields of the same sizes. Others may follow.
abbrev pub Extends : List Object → List Object → Type 0
Extends [] ys = Unit {0}
Extends (x ∷ xs) [] = ⊥
Extends (x ∷ xs) (y ∷ ys) = Becomes x y × AreSized (fields_of x) (fields_of y) × Extends xs ys

pub extends_itself : (heap : List Object) → Extends heap heap
extends_itself [] = tt
extends_itself (o ∷ heap) = (becomes_itself o, fields_themselves (fields_of o), extends_itself heap)

pub extends_appended : (heap new : List Object) → Extends heap (heap ++ new)
extends_appended [] new = tt
extends_appended (o ∷ heap) new = (becomes_itself o, fields_themselves (fields_of o), extends_appended heap new)

pub extends_written : (heap : List Object) (i : ℕ) (was now : Object) → slice_get heap i ≡ Some was → Becomes was now → AreSized (fields_of was) (fields_of now) → Extends heap (slice_set heap i now)
extends_written [] i was now at becomes sized = tt
extends_written (o ∷ heap) zero was now at becomes sized =
    let is = sym (same_Some o was at) in
    (subst (λ p. Becomes p now) is becomes, subst (λ (p : Object). AreSized (fields_of p) (fields_of now)) is sized, extends_itself heap)
extends_written (o ∷ heap) (suc i) was now at becomes sized = (becomes_itself o, fields_themselves (fields_of o), extends_written heap i was now at becomes sized)

pub class_kept : (was now : Object) → Becomes was now → class_of now ≡ class_of was
class_kept (instance class fields) now is = ap class_of is.1
class_kept (array class elements) now is = ap class_of is.1
class_kept (text units) now is = ap class_of is
class_kept (class_object name) now is = ap class_of is

pub class_object_kept : (name : List ℕ) (was now : Object) → Becomes was now → is_class_object name now ≡ is_class_object name was
class_object_kept name (instance class fields) now is = ap (is_class_object name) is.1
class_object_kept name (array class elements) now is = ap (is_class_object name) is.1
class_object_kept name (text units) now is = ap (is_class_object name) is
class_object_kept name (class_object n) now is = ap (is_class_object name) is

-- An object of a heap and its later form, each with the fields of its class.
pub record ArePair (program : List Class) (heap after : List Object) (was now : Object) : Type 0 where
  pub becomes : Becomes was now
  pub sized : AreSized (fields_of was) (fields_of now)
  pub was_is : IsObject program heap was
  pub now_is : IsObject program after now

pub record IsFound (program : List Class) (heap after : List Object) (was_at now_at : Option Object) : Type 0 where
  pub was : Object
  pub now : Object
  pub was_is : was_at ≡ Some was
  pub now_is : now_at ≡ Some now
  pub pair : ArePair program heap after was now

found_at : (program : List Class) (heap after xs ys : List Object) (i : ℕ) → i < length xs → Extends xs ys → AllByRecursion (IsObject program heap) xs → AllByRecursion (IsObject program after) ys → IsFound program heap after (slice_get xs i) (slice_get ys i)
found_at program heap after [] ys i less extends are now_are = absurd (omega arith)
found_at program heap after (x ∷ xs) [] i less extends are now_are = absurd extends
found_at program heap after (x ∷ xs) (y ∷ ys) zero less extends are now_are =
    record { was = x; now = y; was_is = refl; now_is = refl; pair = record { becomes = extends.0; sized = extends.1; was_is = are.0; now_is = now_are.0 } }
found_at program heap after (x ∷ xs) (y ∷ ys) (suc i) less extends are now_are = found_at program heap after xs ys i (omega arith) extends.2 are.1 now_are.1

-- The object of a reference, before and after.
pub found : (program : List Class) (heap after : List Object) (r : ℕ) → IsReference heap r → Extends heap after → AllByRecursion (IsObject program heap) heap → AllByRecursion (IsObject program after) after → IsFound program heap after (object_at heap r) (object_at after r)
found program heap after zero is extends are now_are = absurd (omega (arith, is.0))
found program heap after (suc i) is extends are now_are = found_at program heap after heap after i (omega (arith, is.1)) extends are now_are

-- ---- Fields

-- Fields with the same keys have values for the same keys.
pub same_keys : (test : FieldKey → Bool) (xs ys : List (FieldKey × Value)) → keys ys ≡ keys xs → is_some (lookup test ys) ≡ is_some (lookup test xs)
same_keys test [] [] same = refl
same_keys test [] (y ∷ ys) same = absurd (cc)
same_keys test (x ∷ xs) [] same = absurd (cc)
same_keys test (x ∷ xs) (y ∷ ys) same =
    let first : y.0 ≡ x.0 = cc in
    let others : keys ys ≡ keys xs = cc in
    ap (λ k. is_some (cond (test k) (Some y.1) (lookup test ys))) first
    ∙ some_either (test x.0) x.1 y.1 (lookup test xs) (lookup test ys) (same_keys test xs ys others)
  where
    some_either : (b : Bool) (v w : Value) (o p : Option Value) → is_some p ≡ is_some o → is_some (cond b (Some w) p) ≡ is_some (cond b (Some v) o)
    some_either true v w o p e = refl
    some_either false v w o p e = e
