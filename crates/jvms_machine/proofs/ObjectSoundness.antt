-- A sound state stays sound with a value stored in a field or in an array's element, and with a longer output.
use Rattle.std.proofs.Common.{◌≡◌, ℕ, zero, suc, ◌-◌, ◌≤◌, List, Option, None, Some, slice_set, length-set, refl, sym, subst, arith}
use Rattle.std.proofs.lemmas.Option.{none-some}
use Rattle.jvms_machine.specs.declared.value.Value.{Value}
use Rattle.jvms_machine.specs.declared.machine.Limits.{Limits}
use Rattle.jvms_program.specs.declared.program.Class.{Class}
use Rattle.jvms_program.specs.declared.key.FieldKey.{FieldKey}
use Rattle.jvms_machine.specs.State.{State, Object, object_at, IsValue, IsObject, Sound}
use Rattle.jvms_machine.specs.Heap.{with_value, with_field, with_element, with_object}
use Rattle.jvms_machine.specs.Actions.{with_changed_object, put_field, put_static}
use Rattle.jvms_machine.proofs.ListLaws.{all_weaker, all_set}
use Rattle.jvms_machine.proofs.HeapGrowth.{Becomes, grows_not, written_grows, fields_grow, known_object_grows, grown_is_sound}
use Rattle.jvms_machine.proofs.StoredValues.{object_is, keys_stay, values_stay, with_field_is, with_field_becomes, with_element_is, with_element_becomes}

module _ {program : List Class} {limits : Limits} {s : State} (sound : Sound program limits s) where
  -- ---- An object that changes

  -- The object at an index of the heap has its later form.
  written_is_sound : (i : ℕ) (was now : Object) → object_at s.heap (suc i) ≡ Some was → Becomes was now → IsObject program s.heap now → Sound program limits (record s { heap = slice_set s.heap i now })
  written_is_sound i was now at becomes is =
      let after = slice_set s.heap i now in
      let grows = written_grows s.heap i was now at becomes in
      let stays = known_object_grows s.heap after grows program in
      grown_is_sound sound after s.statics s.elements s.output grows
      (all_set (IsObject program after) s.heap i now (stays now is) (all_weaker (IsObject program s.heap) (IsObject program after) stays s.heap sound.objects_are))
      refl (fields_grow s.heap after grows s.statics sound.static_values)
      (subst (λ n. n ≤ limits.objects) (sym (length-set s.heap i now)) sound.objects) sound.elements

  changed_by : (r : ℕ) (change : Object → Object) (o : Option Object) → object_at s.heap r ≡ o → ((was : Object) → Becomes was (change was)) → ((was : Object) → IsObject program s.heap was → IsObject program s.heap (change was)) → Sound program limits (record s { heap = with_object s.heap r change o })
  changed_by r change None at becomes stays = sound
  changed_by zero change (Some o) at becomes stays = absurd (none-some o at)
  changed_by (suc i) change (Some o) at becomes stays =
      let place : suc i - 1 ≡ i = omega arith in
      subst (λ k. Sound program limits (record s { heap = slice_set s.heap k (change o) })) (sym place)
      (written_is_sound i o (change o) at (becomes o) (stays o (object_is program s.heap (suc i) o sound.objects_are at)))

  pub changed_object_is_sound : (r : ℕ) (change : Object → Object) → ((was : Object) → Becomes was (change was)) → ((was : Object) → IsObject program s.heap was → IsObject program s.heap (change was)) → Sound program limits (with_changed_object s r change)
  changed_object_is_sound r change becomes stays = changed_by r change (object_at s.heap r) refl becomes stays

  -- ---- A stored value

  pub put_field_is_sound : (r : ℕ) (v : Value) (o : Option FieldKey) → IsValue s.heap v → Sound program limits (put_field s r v o)
  put_field_is_sound r v None is = sound
  put_field_is_sound r v (Some key) is = changed_object_is_sound r (with_field key v) (with_field_becomes key v) (λ o was. with_field_is program s.heap key v o is was)

  pub put_element_is_sound : (r i : ℕ) (v : Value) → IsValue s.heap v → Sound program limits (with_changed_object s r (with_element i v))
  put_element_is_sound r i v is = changed_object_is_sound r (with_element i v) (with_element_becomes i v) (λ o was. with_element_is program s.heap i v o is was)

  pub put_static_is_sound : (v : Value) (o : Option FieldKey) → IsValue s.heap v → Sound program limits (put_static s v o)
  put_static_is_sound v None is = sound
  put_static_is_sound v (Some key) is =
      grown_is_sound sound s.heap (with_value key v s.statics) s.elements s.output (grows_not s.heap) sound.objects_are
      (keys_stay key v s.statics) (values_stay s.heap key v s.statics is sound.static_values) sound.objects sound.elements

  -- ---- The output

  pub printed_is_sound : (output : List ℕ) → Sound program limits (record s { output = output })
  printed_is_sound output =
      grown_is_sound sound s.heap s.statics s.elements output (grows_not s.heap) sound.objects_are refl sound.static_values sound.objects sound.elements
