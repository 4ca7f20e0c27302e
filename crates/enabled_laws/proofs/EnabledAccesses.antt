-- The enabledness of turns that load and store elements and fields.
use Rattle.enabled_laws.proofs.EnabledObjects.{new_array_same}
use Rattle.enabled_laws.proofs.EnabledTests.{AreValues, IsPair, Same, class_use_same, fits_same, found_for, if_deep_same, if_deep_when, same_either, same_on, same_when, thrown_same, related_after, with_object_same}
use Rattle.enabled_laws.proofs.FieldTypes.{type_of_key}
use Rattle.enabled_laws.proofs.Heaps.{IsSized, same_keys}
use Rattle.enabled_laws.proofs.Related.{IsFree, Stays, WasBad, on_either, on_or_bad, readiness, ready_or_bad, room_for_any, throws_on}
use Rattle.jvms_file.specs.Descriptors.{field_type, units_of}
use Rattle.jvms_file.specs.declared.descriptor.FieldType.{FieldType}
use Rattle.jvms_file.specs.declared.insn.ArrayInsn.{ArrayInsn}
use Rattle.jvms_file.specs.declared.insn.ArrayKind.{ArrayKind}
use Rattle.jvms_file.specs.declared.insn.FieldUse.{FieldUse}
use Rattle.jvms_machine.proofs.ListLaws.{all_at, all_drop}
use Rattle.jvms_machine.specs.Activations.{has_depth}
use Rattle.jvms_machine.specs.Arrays.{array_decision, array_length_decision, element_at, element_size, fits_component, is_reference_kind, kind_of_elements, load_from, load_operands, element_load_decision, object_length_decision, serves, store_below, store_operands, store_to, element_store_decision}
use Rattle.jvms_machine.specs.Decisions.{bad}
use Rattle.jvms_machine.specs.Fields.{are_of_field, field_decision, field_gives, field_takes, fields_of, found_field_decision, instance_decision, numbered_field_decision, object_decision, object_of_use, reaches, read_decision, resolved_field_decision, static_decision}
use Rattle.jvms_machine.specs.Heap.{component_type, value_of}
use Rattle.jvms_machine.specs.Places.{top_value, value_size}
use Rattle.jvms_machine.specs.State.{Activation, IsFrame, IsObject, IsValue, MethodFrame, Object, State, Thread, array, class_object, class_of, instance, text}
use Rattle.jvms_machine.specs.Steps.{instruction_at}
use Rattle.jvms_machine.specs.declared.action.Effect.{Effect}
use Rattle.jvms_machine.specs.declared.action.FrameAction.{FrameAction}
use Rattle.jvms_machine.specs.declared.machine.Limits.{Limits}
use Rattle.jvms_machine.specs.declared.value.Value.{Value}
use Rattle.jvms_program.specs.Program.{field_key_at}
use Rattle.jvms_program.specs.Resolution.{ResolvedField, field_number, fits, is_static_use, resolved_field}
use Rattle.jvms_program.specs.Slots.{same_key}
use Rattle.jvms_program.specs.declared.key.FieldKey.{FieldKey}
use Rattle.jvms_program.specs.declared.number.FieldNumber.{FieldNumber}
use Rattle.jvms_program.specs.declared.program.Class.{Class}
use Rattle.jvms_program.specs.declared.program.FieldReference.{FieldReference}
use Rattle.jvms_program.specs.declared.thrown.Thrown.{Thrown}
use Rattle.std.proofs.Common.{Bool, IfSome, List, None, Option, Some, [], ap, cond, drop, false, inl, inr, is_some, length, not, refl, slice_get, subst, sym, true, ℕ, ℤ, ⊎_elim, ◌&&◌, ◌+◌, ◌∙◌, ◌∷◌, ◌≡◌, ◌≤◌, ◌⊎◌}
use Rattle.std.proofs.lemmas.Bool.{false≢true, not-false, true≢false}
use Rattle.std.specs.Prelude.{Err, Ok, Result, unsigned_abs}
use Rattle.jvms_file.specs.declared.insn.ArrayInsn.TheVariants as array_insn
use Rattle.jvms_machine.specs.declared.machine.BadCause.TheVariants as cause
use Rattle.jvms_machine.specs.declared.action.Effect.TheVariants as effect
use Rattle.jvms_file.specs.declared.insn.FieldUse.TheVariants as field_use
use Rattle.jvms_machine.specs.declared.action.FrameAction.TheVariants as frame_action
use Rattle.jvms_program.specs.declared.program.Instruction.TheVariants as instruction
use Rattle.jvms_machine.specs.declared.state.StackFrame.TheVariants as stack_frame
use Rattle.jvms_program.specs.declared.thrown.Thrown.TheVariants as thrown
use Rattle.jvms_machine.specs.declared.value.Value.TheVariants as value

module _ {Rel : Bool → Bool → Type 0} {program : List Class} {limits : Limits} {s after : State} {u : ℕ} (thread : Thread) (stays : Stays Rel program limits s after u) where
  -- ---- Arrays

  -- Decides whether an object is an array.
  abbrev is_array_object : Object → Bool
  is_array_object (array class elements) = true
  is_array_object (instance class fields) = false
  is_array_object (text units) = false
  is_array_object (class_object name) = false

  array_kept : (was now : Object) → IsPair thread stays was now → is_array_object now ≡ is_array_object was
  array_kept (array class elements) now pair = ap is_array_object pair.becomes.1
  array_kept (instance class fields) now pair = ap is_array_object pair.becomes.1
  array_kept (text units) now pair = ap is_array_object pair.becomes
  array_kept (class_object name) now pair = ap is_array_object pair.becomes

  measured_is_on : (r : ℕ) (o : Object) → readiness (object_length_decision r o) ≡ ready_or_bad (is_array_object o)
  measured_is_on r (array class elements) = refl
  measured_is_on r (instance class fields) = refl
  measured_is_on r (text units) = refl
  measured_is_on r (class_object name) = refl

  array_length_same : (operands : List Value) → AreValues thread stays operands → Same thread stays (array_length_decision limits s thread operands) (array_length_decision limits after thread operands)
  array_length_same [] are = same_on thread stays refl
  array_length_same (v ∷ others) are =
      with_object_same thread stays v object_length_decision object_length_decision are.0 (λ r was now _ pair. same_on thread stays (measured_is_on r now ∙ ap ready_or_bad (array_kept was now pair) ∙ sym (measured_is_on r was)))

  abbrev is_served : ArrayKind → Object → Bool
  is_served k (array class elements) = serves k (component_type class)
  is_served k (instance class fields) = false
  is_served k (text units) = false
  is_served k (class_object name) = false

  served_kept : (k : ArrayKind) (was now : Object) → IsPair thread stays was now → is_served k now ≡ is_served k was
  served_kept k (array class elements) now pair = ap (is_served k) pair.becomes.1
  served_kept k (instance class fields) now pair = ap (is_served k) pair.becomes.1
  served_kept k (text units) now pair = ap (is_served k) pair.becomes
  served_kept k (class_object name) now pair = ap (is_served k) pair.becomes

  -- The frame has room for any value in place of an array and an index.
  abbrev HasRoomForAny : MethodFrame → Type 0
  HasRoomForAny frame = (v : Value) → has_depth frame.body 2 (value_size v) frame.activation ≡ true

  loaded_on : (st : State) (frame : MethodFrame) (r : ℕ) (n : ℤ) (o : Option Value) → HasRoomForAny frame → readiness (element_load_decision limits st thread frame r n o) ≡ Some true
  loaded_on st frame r n None room = throws_on limits st thread thrown.ArrayIndexOutOfBoundsException
  loaded_on st frame r n (Some v) room =
      on_or_bad (has_depth frame.body 2 (value_size v) frame.activation) (reaches (effect.LoadElement r (unsigned_abs n)) (frame_action.Push 2 v)) (bad cause.Depth) refl refl ∙ ap ready_or_bad (room v)

  load_is_on : (st : State) (frame : MethodFrame) (k : ArrayKind) (n : ℤ) (r : ℕ) (o : Object) → HasRoomForAny frame → readiness (load_from limits st thread frame k n r o) ≡ ready_or_bad (is_served k o)
  load_is_on st frame k n r (array class elements) room = on_or_bad (serves k (component_type class)) _ _ (loaded_on st frame r n (element_at elements n) room) refl
  load_is_on st frame k n r (instance class fields) room = refl
  load_is_on st frame k n r (text units) room = refl
  load_is_on st frame k n r (class_object name) room = refl

  loads_same : (frame : MethodFrame) (k : ArrayKind) (operands : List Value) → AreValues thread stays operands → HasRoomForAny frame → Same thread stays (load_operands limits s thread frame k operands) (load_operands limits after thread frame k operands)
  loads_same frame k (value.Int n ∷ o ∷ others) are room =
      with_object_same thread stays o (load_from limits s thread frame k n) (load_from limits after thread frame k n) are.1.0
      (λ r was now _ pair. same_on thread stays (load_is_on after frame k n r now room ∙ ap ready_or_bad (served_kept k was now pair) ∙ sym (load_is_on s frame k n r was room)))
  loads_same frame k _ are room = same_on thread stays refl

  stored_on : (st : State) (a : Activation) (k : ArrayKind) (v : Value) (n : ℤ) (r : ℕ) (class : List ℕ) (o : Option Value) → readiness (element_store_decision program limits st thread a k v n r class o) ≡ Some true
  stored_on st a k v n r class None = throws_on limits st thread thrown.ArrayIndexOutOfBoundsException
  stored_on st a k v n r class (Some old) =
      on_either (is_reference_kind k && not (fits_component program st class v)) _ _ (throws_on limits st thread thrown.ArrayStoreException) refl

  store_is_on : (st : State) (a : Activation) (k : ArrayKind) (v : Value) (n : ℤ) (r : ℕ) (o : Object) → readiness (store_to program limits st thread a k v n r o) ≡ ready_or_bad (is_served k o)
  store_is_on st a k v n r (array class elements) = on_or_bad (serves k (component_type class)) _ _ (stored_on st a k v n r class (element_at elements n)) refl
  store_is_on st a k v n r (instance class fields) = refl
  store_is_on st a k v n r (text units) = refl
  store_is_on st a k v n r (class_object name) = refl

  store_below_same : (a : Activation) (k : ArrayKind) (v : Value) (operands : List Value) → AreValues thread stays operands → Same thread stays (store_below program limits s thread a k v operands) (store_below program limits after thread a k v operands)
  store_below_same a k v (value.Int n ∷ o ∷ others) are =
      with_object_same thread stays o (store_to program limits s thread a k v n) (store_to program limits after thread a k v n) are.1.0
      (λ r was now _ pair. same_on thread stays (store_is_on after a k v n r now ∙ ap ready_or_bad (served_kept k was now pair) ∙ sym (store_is_on s a k v n r was)))
  store_below_same a k v _ are = same_on thread stays refl

  stores_same : (a : Activation) (k : ArrayKind) (o : Option Value) → AreValues thread stays a.operands → Same thread stays (store_operands program limits s thread a k o) (store_operands program limits after thread a k o)
  stores_same a k None are = same_on thread stays refl
  stores_same a k (Some v) are = store_below_same a k v (drop (element_size k) a.operands) (all_drop (IsValue s.heap) (element_size k) a.operands are)

  pub array_same : (frame : MethodFrame) (i : ArrayInsn) → AreValues thread stays frame.activation.operands → length frame.activation.operands ≤ frame.body.max_stack → Same thread stays (array_decision program limits s thread frame i) (array_decision program limits after thread frame i)
  unfolding array_decision
  array_same frame (array_insn.New type) are within = new_array_same thread stays frame type
  array_same frame array_insn.Length are within = if_deep_same thread stays frame 1 1 _ _ (array_length_same frame.activation.operands are)
  array_same frame (array_insn.Load k) are within =
      if_deep_when thread stays frame 2 (element_size k) _ _ (λ deep. loads_same frame k frame.activation.operands are (λ v. room_for_any frame (element_size k) deep within v))
  array_same frame (array_insn.Store k) are within =
      if_deep_same thread stays frame (2 + element_size k) 0 _ _ (stores_same frame.activation k (top_value (kind_of_elements k) frame.activation.operands) are)

  -- ---- Fields

  -- If the first read isn't Bad, there is room for the value of the second, unless the relation allows anything.
  read_by : (b c : Bool) (what : Effect (List ℕ)) (x y : FrameAction) → (b ≡ true → (c ≡ true) ⊎ ((d : Bool) → Rel true d)) → Same thread stays (cond b (reaches what x) (bad cause.Depth)) (cond c (reaches what y) (bad cause.Depth))
  read_by false c what x y tells = WasBad _
  read_by true true what x y tells = same_on thread stays refl
  read_by true false what x y tells = ⊎_elim (λ (room : false ≡ true). absurd (false≢true room)) (λ (free : (d : Bool) → Rel true d). IsFree None free) (tells refl)

  read_same : (frame : MethodFrame) (what : Effect (List ℕ)) (takes : ℕ) (key : FieldKey) (o p : Option Value) → is_some p ≡ is_some o → IsSized key o p ⊎ ((b : Bool) → Rel true b) → has_depth frame.body takes (units_of (field_type key.descriptor)) frame.activation ≡ true → Same thread stays (read_decision frame what takes o) (read_decision frame what takes p)
  read_same frame what takes key None None some sized deep = same_on thread stays refl
  read_same frame what takes key None (Some w) some sized deep = absurd (true≢false some)
  read_same frame what takes key (Some v) None some sized deep = absurd (false≢true some)
  read_same frame what takes key (Some v) (Some w) some sized deep =
      read_by (has_room v) (has_room w) what (frame_action.Push takes v) (frame_action.Push takes w)
      (λ room. ⊎_elim
      (λ (size : IsSized key (Some v) (Some w)). inl
      (⊎_elim
      (λ (same : value_size w ≡ value_size v). ap depth same ∙ room)
      (λ (same : value_size w ≡ units_of (field_type key.descriptor)). ap depth same ∙ deep)
      size))
      (λ (free : (b : Bool) → Rel true b). inr free)
      sized)
    where
      depth : ℕ → Bool
      depth n = has_depth frame.body takes n frame.activation

      has_room : Value → Bool
      has_room x = depth (value_size x)

  static_field_same : (frame : MethodFrame) (how : FieldUse) (type : FieldType) (n : FieldNumber) (key : FieldKey) → has_depth frame.body (field_takes how type) (field_gives how type) frame.activation ≡ true → type ≡ field_type key.descriptor → Same thread stays (static_decision s frame how type n key) (static_decision after frame how type n key)
  static_field_same frame field_use.GetStatic type n key deep spelled =
      read_same frame (effect.GetStatic n) 0 key (value_of key s.statics) (value_of key after.statics)
      (same_keys (λ k. same_key k key) s.statics after.statics (stays.sound_after.statics ∙ sym stays.sound.statics))
      (stays.statics key)
      (ap (λ t. has_depth frame.body 0 (units_of t) frame.activation) (sym spelled) ∙ deep)
  static_field_same frame field_use.PutStatic type n key deep spelled = same_on thread stays refl
  static_field_same frame field_use.Get type n key deep spelled = same_on thread stays refl
  static_field_same frame field_use.Put type n key deep spelled = same_on thread stays refl

  abbrev has_field : FieldKey → Object → Bool
  has_field key o = is_some (value_of key (fields_of o))

  fields_kept : (key : FieldKey) (was now : Object) → IsPair thread stays was now → has_field key now ≡ has_field key was
  fields_kept key (instance class fields) now pair =
      let others = pair.becomes.0 in
      let now_is : IsObject program after.heap (instance class others) = subst (IsObject program after.heap) pair.becomes.1 pair.now_is in
      ap (has_field key) pair.becomes.1 ∙ same_keys (λ k. same_key k key) fields others (now_is.0 ∙ sym pair.was_is.0)
  fields_kept key (array class elements) now pair = ap (has_field key) pair.becomes.1
  fields_kept key (text units) now pair = ap (has_field key) pair.becomes
  fields_kept key (class_object name) now pair = ap (has_field key) pair.becomes

  object_field_same : (frame : MethodFrame) (how : FieldUse) (type : FieldType) (n : FieldNumber) (key : FieldKey) (r : ℕ) (was now : Object) → IsPair thread stays was now → has_depth frame.body (field_takes how type) (field_gives how type) frame.activation ≡ true → type ≡ field_type key.descriptor → Same thread stays (object_decision frame how type n key r was) (object_decision frame how type n key r now)
  object_field_same frame field_use.Get type n key r was now pair deep spelled =
      read_same frame (effect.GetField r n) 1 key (value_of key (fields_of was)) (value_of key (fields_of now)) (fields_kept key was now pair) (inl (pair.sized key))
      (ap (λ t. has_depth frame.body 1 (units_of t) frame.activation) (sym spelled) ∙ deep)
  object_field_same frame field_use.Put type n key r was now pair deep spelled = same_on thread stays refl
  object_field_same frame field_use.GetStatic type n key r was now pair deep spelled = same_on thread stays refl
  object_field_same frame field_use.PutStatic type n key r was now pair deep spelled = same_on thread stays refl

  instance_field_same : (frame : MethodFrame) (how : FieldUse) (type : FieldType) (n : FieldNumber) (key : FieldKey) (o : Option Value) → IfSome o (IsValue s.heap) → has_depth frame.body (field_takes how type) (field_gives how type) frame.activation ≡ true → type ≡ field_type key.descriptor → Same thread stays (instance_decision program limits s thread frame how type n key o) (instance_decision program limits after thread frame how type n key o)
  instance_field_same frame how type n key (Some (value.Reference r)) is deep spelled =
      let f = found_for thread stays r is in
      rw f.was_is (rw f.now_is
      (related_after thread stays (ap (λ (b : Bool). readiness (cond b (object_decision frame how type n key r f.now) (bad cause.Kind))) (fits_same thread stays f.was f.now key.class f.pair))
      (same_either thread stays (fits program (class_of f.was) key.class) _ _ _ _ (object_field_same frame how type n key r f.was f.now f.pair deep spelled) (same_on thread stays refl))))
  instance_field_same frame how type n key (Some value.Null) is deep spelled = thrown_same thread stays thrown.NullPointerException
  instance_field_same frame how type n key _ is deep spelled = same_on thread stays refl

  operand_is : (operands : List Value) (k : ℕ) (o : Option Value) → slice_get operands k ≡ o → AreValues thread stays operands → IfSome o (IsValue s.heap)
  operand_is operands k None at are = tt
  operand_is operands k (Some v) at are = all_at (IsValue s.heap) operands k v at are

  use_is_value : (how : FieldUse) (type : FieldType) (operands : List Value) → AreValues thread stays operands → IfSome (object_of_use how type operands) (IsValue s.heap)
  use_is_value field_use.Get type operands are = operand_is operands 0 (slice_get operands 0) refl are
  use_is_value field_use.Put type operands are = operand_is operands (units_of type) (slice_get operands (units_of type)) refl are
  use_is_value field_use.GetStatic type operands are = tt
  use_is_value field_use.PutStatic type operands are = tt

  -- A type is that of the field of a number.
  abbrev IsTypeOf : FieldType → FieldNumber → Type 0
  IsTypeOf type n = (key : FieldKey) → field_key_at program n ≡ Some key → type ≡ field_type key.descriptor

  module _ (frame : MethodFrame) (are : (AreValues thread stays) frame.activation.operands) where
    numbered_field_same : (how : FieldUse) (type : FieldType) (n : FieldNumber) (o : Option FieldKey) → has_depth frame.body (field_takes how type) (field_gives how type) frame.activation ≡ true → ((key : FieldKey) → o ≡ Some key → type ≡ field_type key.descriptor) → Same thread stays (numbered_field_decision program limits s u thread frame how type n o) (numbered_field_decision program limits after u thread frame how type n o)
    numbered_field_same how type n None deep spelled = same_on thread stays refl
    numbered_field_same how type n (Some key) deep spelled =
        same_either thread stays (is_static_use how) _ _ _ _
        (class_use_same thread stays n.class _ _ (static_field_same frame how type n key deep (spelled key refl)))
        (instance_field_same frame how type n key (object_of_use how type frame.activation.operands) (use_is_value how type frame.activation.operands are) deep (spelled key refl))

    found_field_same : (how : FieldUse) (type : FieldType) (o : Option FieldNumber) → has_depth frame.body (field_takes how type) (field_gives how type) frame.activation ≡ true → ((n : FieldNumber) → o ≡ Some n → IsTypeOf type n) → Same thread stays (found_field_decision program limits s u thread frame how type o) (found_field_decision program limits after u thread frame how type o)
    found_field_same how type None deep spelled = same_on thread stays refl
    found_field_same how type (Some n) deep spelled = numbered_field_same how type n (field_key_at program n) deep (spelled n refl)

    resolved_field_same : (how : FieldUse) (type : FieldType) (o : Result ResolvedField Thrown) → has_depth frame.body (field_takes how type) (field_gives how type) frame.activation ≡ true → ((f : ResolvedField) (n : FieldNumber) → o ≡ Ok f → field_number program f ≡ Some n → IsTypeOf type n) → Same thread stays (resolved_field_decision program limits s u thread frame how type o) (resolved_field_decision program limits after u thread frame how type o)
    resolved_field_same how type (Err class) deep spelled = thrown_same thread stays class
    resolved_field_same how type (Ok f) deep spelled = found_field_same how type (field_number program f) deep (λ n number. spelled f n refl number)

  pub field_same : (frame : MethodFrame) (how : FieldUse) (r : FieldReference) → IsFrame program s.heap (stack_frame.Call frame) → instruction_at frame ≡ Some (instruction.Field how r) → Same thread stays (field_decision program limits s u thread frame how r) (field_decision program limits after u thread frame how r)
  unfolding field_decision
  field_same frame how r is at =
      let deep = has_depth frame.body (field_takes how r.field_type) (field_gives how r.field_type) frame.activation in
      same_when thread stays (not deep) _ _ _ _
      (λ _. same_on thread stays refl)
      (λ is_deep. same_either thread stays (not (are_of_field how r.field_type frame.activation.operands)) _ _ _ _ (same_on thread stays refl)
      (resolved_field_same frame is.3 how r.field_type (resolved_field program (is_static_use how) r) (not-false deep is_deep)
      (λ f n resolved number key key_is. type_of_key program s.heap frame how r (is_static_use how) f n key stays.classes is at resolved number key_is)))
