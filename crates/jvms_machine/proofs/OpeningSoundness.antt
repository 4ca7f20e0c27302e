-- The opening state is sound.
use Rattle.std.proofs.Common.{◌≡◌, ℕ, zero, suc, Bool, not, ◌==◌, List, [], ◌∷◌, map, reverse, flat_map, Some, IsTrue, slice_get, codes, refl, sym, ap, ◌∙◌, arith, None}
use Rattle.std.specs.List.{AllByRecursion, filter}
use Rattle.std.proofs.lemmas.Bool.{cond_both}
use Rattle.std.proofs.lemmas.List.{length-map}
use Rattle.jvms_machine.specs.declared.value.Value.{Value}
use Rattle.jvms_machine.specs.declared.value.Value.TheVariants as value
use Rattle.jvms_file.specs.declared.descriptor.Primitive.TheVariants as primitive
use Rattle.jvms_file.specs.declared.descriptor.Element.{Element}
use Rattle.jvms_file.specs.declared.descriptor.Element.TheVariants as element
use Rattle.jvms_file.specs.declared.descriptor.FieldType.{FieldType}
use Rattle.jvms_program.specs.declared.program.Class.{Class}
use Rattle.jvms_program.specs.declared.program.Field.{Field}
use Rattle.jvms_machine.specs.declared.machine.Limits.{Limits}
use Rattle.jvms_program.specs.declared.key.FieldKey.{FieldKey}
use Rattle.jvms_program.specs.BuiltIn.{is_built_in}
use Rattle.jvms_program.specs.Program.{field_key}
use Rattle.jvms_program.specs.Resolution.{chain}
use Rattle.jvms_machine.specs.declared.state.Initialisation.TheVariants as initialisation
use Rattle.jvms_machine.specs.State.{Object, first_instance, IsValue, IsObject, Sound, default_of_element, default_value, fields_where, static_fields, keys, initialisation_frames, frames_in_progress, new_thread}
use Rattle.jvms_machine.specs.Limits.{are_limits}
use Rattle.jvms_machine.specs.Opening.{opening_heap, is_system_out, opening_static, opening_initialisation, opening}
use Rattle.jvms_machine.proofs.ListLaws.{all_map, all_map_weaker, all_flat_map}
use Rattle.jvms_machine.proofs.LimitLaws.{limits_have_room}

-- The default value of a field of an element's type is a value in any heap.
element_default_is_value : (heap : List Object) (e : Element) → IsValue heap (default_of_element e)
element_default_is_value heap (element.Object name) = tt
element_default_is_value heap (element.Primitive primitive.Float) = tt
element_default_is_value heap (element.Primitive primitive.Double) = tt
element_default_is_value heap (element.Primitive primitive.Long) = tt
element_default_is_value heap (element.Primitive _) = tt

-- The default value of any field is a value in any heap.
pub default_is_value : (heap : List Object) (t : FieldType) → IsValue heap (default_value t)
default_is_value heap t = cond_both (t.dimensions == 0) _ _ (IsValue heap) (λ _. element_default_is_value heap t.element) (λ _. tt)

-- A field's value is one of the heap.
abbrev HasValue : List Object → FieldKey × Value → Type 0
HasValue heap f = IsValue heap f.1

-- The fields of a class that pass a test have values at first.
fields_have_values : (heap : List Object) (test : Field → Bool) (c : Class) → AllByRecursion (HasValue heap) (fields_where test c)
fields_have_values heap test c =
    all_map (HasValue heap) (λ f. (field_key c f, default_value f.field_type)) (λ f. default_is_value heap f.field_type) (filter test c.fields)

-- The fields of several classes that pass a test have values at first.
all_fields_have_values : (heap : List Object) (test : Field → Bool) (classes : List Class) → AllByRecursion (HasValue heap) (flat_map (fields_where test) classes)
all_fields_have_values heap test classes = all_flat_map (HasValue heap) (fields_where test) (fields_have_values heap test) classes

-- A new object has its class's fields, with values.
pub first_instance_is : (program : List Class) (heap : List Object) (class : List ℕ) → IsObject program heap (first_instance program class)
first_instance_is program heap class = (refl, all_fields_have_values heap (λ f. not f.is_static) (reverse (chain program class)))

-- The static fields of the opening are the program's.
opening_keys : (fields : List (FieldKey × Value)) → keys (map opening_static fields) ≡ keys fields
opening_keys [] = refl
opening_keys (f ∷ fields) = ap (λ (ks : List FieldKey). f.0 ∷ ks) (opening_keys fields)

-- A static field of the opening has a value: reference 3, or its default value.
opening_static_has_value : (program : List Class) (f : FieldKey × Value) → HasValue (opening_heap program) f → HasValue (opening_heap program) (opening_static f)
opening_static_has_value program f is = cond_both (is_system_out f.0) (value.Reference 3) f.1 (IsValue (opening_heap program)) (λ _. (omega arith, omega arith)) (λ _. is)

-- No class is in progress at the opening.
none_in_progress : (program : List Class) (thread class : ℕ) → frames_in_progress thread (slice_get (map opening_initialisation program) class) ≡ 0
none_in_progress [] thread class = refl
none_in_progress (c ∷ program) thread zero = cond_both (is_built_in c.name) initialisation.Done initialisation.NotBegun (λ i. frames_in_progress thread (Some i) ≡ 0) (λ _. refl) (λ _. refl)
none_in_progress (c ∷ program) thread (suc class) = none_in_progress program thread class

-- No thread of the opening has an initialisation frame.
no_initialisation_frames : (thread class : ℕ) → initialisation_frames class (slice_get (new_thread None ∷ []) thread) ≡ 0
no_initialisation_frames zero class = refl
no_initialisation_frames (suc thread) class = refl

-- The opening state is sound.
pub opening_is_sound : (program : List Class) (limits : Limits) → IsTrue (are_limits limits) → Sound program limits (opening program)
unfolding opening
opening_is_sound program limits are =
    let room = limits_have_room limits are in
    let heap = opening_heap program in
    let first = first_instance_is program heap (codes "java/lang/OutOfMemoryError") in
    let second = first_instance_is program heap (codes "java/lang/StackOverflowError") in
    let third = first_instance_is program heap (codes "java/io/PrintStream") in
    record {
      opened = omega arith;
      objects_are = (first, (second, (third, (tt, tt))));
      monitors = tt;
      waiters = tt;
      out_of_memory = (_, refl);
      stack_overflow = (_, refl);
      statics = opening_keys (static_fields program);
      static_values = all_map_weaker (HasValue heap) (HasValue heap) opening_static (opening_static_has_value program) (static_fields program) (all_fields_have_values heap (λ f. f.is_static) program);
      classes = length-map program opening_initialisation;
      threads = ((tt, tt, omega arith, tt, tt, tt), tt);
      first_thread = refl;
      own_objects = (tt, tt);
      initialised = λ thread class. no_initialisation_frames thread class ∙ sym (none_in_progress program thread class);
      result = tt;
      objects = room.objects;
      elements = omega arith;
      thread_count = room.threads;
    }
