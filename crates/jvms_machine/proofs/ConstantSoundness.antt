-- Storing the constants of a class's static fields, and creating the strings among them, keeps a sound state sound.
use Rattle.std.proofs.Common.{◌≡◌, ℕ, ◌+◌, ◌≤◌, Bool, true, false, List, [], ◌∷◌, ◌++◌, length, map, Option, None, Some, refl, sym, ap, ◌∙◌, subst}
use Rattle.std.specs.List.{AllByRecursion}
use Rattle.std.proofs.lemmas.List.{length-map}
use Rattle.jvms_machine.specs.declared.value.Value.{Value}
use Rattle.jvms_machine.specs.declared.machine.Limits.{Limits}
use Rattle.jvms_file.specs.declared.descriptor.FieldType.{FieldType}
use Rattle.jvms_program.specs.declared.program.Loadable.{Loadable}
use Rattle.jvms_program.specs.declared.program.Loadable.TheVariants as loadable
use Rattle.jvms_program.specs.declared.program.Class.{Class}
use Rattle.jvms_program.specs.declared.program.Field.{Field}
use Rattle.jvms_program.specs.declared.key.FieldKey.{FieldKey}
use Rattle.jvms_program.specs.Program.{field_key}
use Rattle.jvms_machine.specs.State.{State, Object, text, keys, is_text, text_reference, IsValue, IsObject, Sound}
use Rattle.jvms_machine.specs.Heap.{with_value}
use Rattle.jvms_machine.specs.Initialisation.{constants_of, new_texts}
use Rattle.jvms_machine.specs.Actions.{constant_value, with_constants, with_class_constants}
use Rattle.jvms_machine.proofs.ListLaws.{all_map}
use Rattle.jvms_machine.proofs.HeapGrowth.{appended_grows, grown_length, fields_grow, objects_with, grown_is_sound}
use Rattle.jvms_machine.proofs.StoredValues.{found_is_reference, keys_stay, values_stay}

-- ---- The values of constants

-- A string's object, if it exists, is a value.
text_is_value : (heap : List Object) (t : FieldType) (units : List ℕ) (o : Option ℕ) → o ≡ text_reference heap units → IsValue heap (constant_value heap t (loadable.String units))
text_is_value heap t units None e = rw (← e) tt
text_is_value heap t units (Some r) e = rw (← e) (found_is_reference (is_text units) heap r (sym e))

constant_is_value : (heap : List Object) (t : FieldType) (constant : Loadable) → IsValue heap (constant_value heap t constant)
constant_is_value heap t (loadable.Integer n) = tt
constant_is_value heap t (loadable.String units) = text_is_value heap t units (text_reference heap units) refl
constant_is_value heap t _ = tt

-- ---- The static fields

-- Static fields with the same keys, which have values.
abbrev AreStatics : List Object → List (FieldKey × Value) → List (FieldKey × Value) → Type 0
AreStatics heap before after = (keys after ≡ keys before) × AllByRecursion (λ f. IsValue heap f.1) after

module _ (heap : List Object) (c : Class) where
  constant_by : (f : Field) (fields : List Field) (statics : List (FieldKey × Value)) (static : Bool) (o : Option Loadable) → static ≡ f.is_static → o ≡ f.constant → ((now : List (FieldKey × Value)) → AreStatics heap statics now → AreStatics heap statics (with_constants heap c fields now)) → AllByRecursion (λ f. IsValue heap f.1) statics → AreStatics heap statics (with_constants heap c (f ∷ fields) statics)
  constant_by f fields statics true (Some constant) s_is c_is next values =
      let v = constant_value heap f.field_type constant in
      rw (← s_is, ← c_is) (next (with_value (field_key c f) v statics) (keys_stay (field_key c f) v statics, values_stay heap (field_key c f) v statics (constant_is_value heap f.field_type constant) values))
  constant_by f fields statics true None s_is c_is next values = rw (← s_is, ← c_is) (next statics (refl, values))
  constant_by f fields statics false o s_is c_is next values = rw (← s_is) (next statics (refl, values))

  constants_are_statics : (fields : List Field) (before statics : List (FieldKey × Value)) → AreStatics heap before statics → AreStatics heap before (with_constants heap c fields statics)
  constants_are_statics [] before statics are = are
  constants_are_statics (f ∷ fields) before statics are =
      let stored = constant_by f fields statics f.is_static f.constant refl refl (λ now are_now. constants_are_statics fields statics now are_now) are.1 in
      (stored.0 ∙ are.0, stored.1)

-- ---- The state

pub class_constants_are_sound : {program : List Class} {limits : Limits} {s : State} → Sound program limits s → (c : Class) → length s.heap + length (new_texts s.heap (constants_of c.fields)) ≤ limits.objects → Sound program limits (with_class_constants s (Some c))
class_constants_are_sound {program = program} {limits = limits} {s = s} sound c room =
    let texts = new_texts s.heap (constants_of c.fields) in
    let new = map text texts in
    let after = s.heap ++ new in
    let grows = appended_grows s.heap new in
    let as_many : length after ≡ length s.heap + length texts = grown_length s.heap new ∙ ap (λ n. length s.heap + n) (length-map texts text) in
    let statics = constants_are_statics after c c.fields s.statics s.statics (refl, fields_grow s.heap after grows s.statics sound.static_values) in
    grown_is_sound sound after (with_constants after c c.fields s.statics) s.elements s.output grows
    (objects_with program s.heap new sound.objects_are (all_map (IsObject program after) text (λ units. tt) texts))
    statics.0 statics.1 (subst (λ n. n ≤ limits.objects) (sym as_many) room) sound.elements
