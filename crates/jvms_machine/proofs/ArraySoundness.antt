-- A turn of an array instruction keeps a sound state sound.
use Rattle.std.proofs.Common.{◌≡◌, ℕ, zero, suc, ◌<◌, ◌≤◌, true, not, ◌&&◌, List, [], ◌∷◌, ◌++◌, length, replicate, take, Option, None, Some, IfSome, slice_get, refl, sym, ◌∙◌, subst, arith, ◌+◌, drop}
use Rattle.std.specs.Prelude.{ℤ, pos, int_lt, unsigned_abs}
use Rattle.std.specs.List.{AllByRecursion, list_all, list_any}
use Rattle.std.proofs.lemmas.Bool.{false≢true, cond_both, not-false}
use Rattle.std.proofs.lemmas.Option.{none-some}
use Rattle.std.proofs.lemmas.List.{length-map, length-reverse, length-take-le}
use Rattle.jvms_machine.specs.declared.value.Value.{Value}
use Rattle.jvms_machine.specs.declared.value.Value.TheVariants as value
use Rattle.jvms_machine.specs.declared.machine.Limits.{Limits}
use Rattle.jvms_machine.specs.declared.state.StackFrame.TheVariants as stack_frame
use Rattle.jvms_machine.specs.declared.action.FrameAction.TheVariants as frame_action
use Rattle.jvms_machine.specs.declared.action.NewObject.TheVariants as new_object
use Rattle.jvms_machine.specs.declared.action.Effect.TheVariants as effect
use Rattle.jvms_file.specs.declared.insn.ArrayType.{ArrayType}
use Rattle.jvms_file.specs.declared.insn.ArrayKind.{ArrayKind}
use Rattle.jvms_file.specs.declared.insn.ArrayInsn.{ArrayInsn}
use Rattle.jvms_file.specs.declared.insn.ArrayInsn.TheVariants as array_insn
use Rattle.jvms_program.specs.declared.program.Class.{Class}
use Rattle.jvms_program.specs.declared.thrown.Thrown.TheVariants as thrown
use Rattle.jvms_program.specs.Resolution.{class_exists}
use Rattle.jvms_machine.specs.Decisions.{TurnDecision}
use Rattle.jvms_machine.specs.State.{State, Object, instance, array, text, class_object, Thread, Frame, MethodFrame, object_at, IsValue, IsObject}
use Rattle.jvms_machine.specs.Start.{Start}
use Rattle.jvms_machine.specs.Places.{is_of_kind, top_value}
use Rattle.jvms_machine.proofs.PlaceLaws.{top_is_of_kind}
use Rattle.jvms_machine.specs.Heap.{has_room_for_elements, next_reference, stored_as, array_of_type, array_of_class, component_type, first_element, has_dimensions, arrays_made, elements_made, new_arrays}
use Rattle.jvms_machine.specs.Fields.{next_action}
use Rattle.jvms_machine.specs.Arrays.{with_int, with_object_of, length_decision, new_array_decision, new_class_array_decision, lengths_in, is_int, is_negative, length_of_value, counted_lengths, new_arrays_room, new_arrays_decision, object_length_decision, array_length_decision, serves, kind_of_elements, element_at, element_load_decision, load_from, load_operands, fits_component, is_reference_kind, element_store_decision, store_to, store_operands, array_decision, element_size, store_below}
use Rattle.jvms_machine.specs.Turn.{ElementsCanHold}
use Rattle.jvms_machine.proofs.ListLaws.{all_at, all_replicate}
use Rattle.jvms_machine.proofs.LimitLaws.{room_for_elements_is}
use Rattle.jvms_machine.proofs.ThreadChanges.{Stands}
use Rattle.jvms_machine.proofs.HeapGrowth.{grown_length}
use Rattle.jvms_machine.proofs.OpeningSoundness.{default_is_value}
use Rattle.jvms_machine.proofs.KeptStates.{Keeps, still}
use Rattle.jvms_machine.proofs.ExceptionSoundness.{throws_keeps}
use Rattle.jvms_machine.proofs.StoredValues.{object_is, stored_is_value}
use Rattle.jvms_machine.proofs.HeldValues.{stored_can_be_held}
use Rattle.jvms_machine.proofs.ObjectSoundness.{put_element_is_sound}
use Rattle.jvms_machine.proofs.NewArrays.{some_made, new_arrays_length, new_arrays_are}
use Rattle.jvms_machine.proofs.EffectSoundness.{HasDepth, frame_is_fit, reaches_keeps, read_keeps, if_deep_keeps, creation_keeps}

-- An element of an array is a value.
element_is_value : (heap : List Object) (elements : List Value) (n : ℤ) (v : Value) → AllByRecursion (IsValue heap) elements → element_at elements n ≡ Some v → IsValue heap v
element_is_value heap elements n v all is =
    cond_both (int_lt n (pos 0)) None (slice_get elements (unsigned_abs n)) (λ (o : Option Value). o ≡ Some v → IsValue heap v)
    (λ _ none. absurd (none-some v none))
    (λ _ there. all_at (IsValue heap) elements (unsigned_abs n) v there all)
    is

-- Lengths that aren't empty make an array.
pub some_made_of : (lengths : List ℕ) → 0 < length lengths → 1 ≤ arrays_made lengths
some_made_of [] some = absurd (omega arith)
some_made_of (n ∷ lengths) some = some_made n lengths

-- The number of lengths is that of the dimensions.
pub lengths_taken : (dimensions : ℕ) (operands : List Value) → dimensions ≤ length operands → length (counted_lengths dimensions operands) ≡ dimensions
lengths_taken dimensions operands there =
    length-map (lengths_in dimensions operands) length_of_value ∙ length-reverse (take dimensions operands) ∙ length-take-le dimensions operands there

-- There is at least one dimension.
has_some : (class : List ℕ) (dimensions : ℕ) → has_dimensions class dimensions ≡ true → 0 < dimensions
has_some class zero is = absurd (false≢true is)
has_some class (suc more) is = omega arith

module _ (program : List Class) (limits : Limits) (start : Start) (s : State) (t : ℕ) (thread : Thread) (frame : MethodFrame) (below : List Frame) (stands : Stands program limits s t thread (stack_frame.Call frame ∷ below)) where
  abbrev KeepsSound : TurnDecision → Type 0
  KeepsSound d = Keeps program limits start s t d

  -- ---- Operands

  with_int_keeps : (operands : List Value) (rest : ℤ → TurnDecision) → ((n : ℤ) → KeepsSound (rest n)) → KeepsSound (with_int operands rest)
  with_int_keeps (value.Int n ∷ others) rest keeps = keeps n
  with_int_keeps _ rest keeps = still t stands.sound

  object_by : (r : ℕ) (o : Option Object) (rest : ℕ → Object → TurnDecision) → o ≡ object_at s.heap r → ((q : ℕ) (p : Object) → object_at s.heap q ≡ Some p → KeepsSound (rest q p)) → KeepsSound (with_object_of limits s thread (value.Reference r) rest)
  object_by r None rest e keeps = rw (← e) (still t stands.sound)
  object_by r (Some o) rest e keeps = rw (← e) (keeps r o (sym e))

  pub with_object_keeps : (v : Value) (rest : ℕ → Object → TurnDecision) → ((q : ℕ) (p : Object) → object_at s.heap q ≡ Some p → KeepsSound (rest q p)) → KeepsSound (with_object_of limits s thread v rest)
  with_object_keeps (value.Reference r) rest keeps = object_by r (object_at s.heap r) rest refl keeps
  with_object_keeps value.Null rest keeps = throws_keeps start stands thrown.NullPointerException
  with_object_keeps _ rest keeps = still t stands.sound

  -- ---- New arrays

  length_keeps : (class : List ℕ) (n : ℤ) → HasDepth frame 1 1 → KeepsSound (length_decision limits s thread class n)
  length_keeps class n depth =
      let count = unsigned_abs n in
      let has = has_room_for_elements 1 count limits s in
      cond_both (int_lt n (pos 0)) _ _ KeepsSound
      (λ _. throws_keeps start stands thrown.NegativeArraySizeException)
      (λ _. cond_both (not has) _ _ KeepsSound
      (λ _. throws_keeps start stands thrown.OutOfMemoryError)
      (λ has_room.
      let room = room_for_elements_is 1 count limits s (not-false has has_room) in
      let heap = s.heap ++ array class (replicate count (first_element class)) ∷ [] in
      creation_keeps program limits start s t thread frame below stands 1 (new_object.Array class count) depth refl
      (all_replicate (IsValue heap) count (first_element class) (default_is_value heap (component_type class)), tt)
      room.0 room.1 (λ _. omega arith) tt))

  new_array_keeps : (type : ArrayType) → KeepsSound (new_array_decision limits s thread frame type)
  new_array_keeps type =
      if_deep_keeps program limits start s t thread frame below stands 1 1 _
      (λ depth. with_int_keeps frame.activation.operands (length_decision limits s thread (array_of_type type)) (λ n. length_keeps (array_of_type type) n depth))

  pub new_class_array_keeps : (name : List ℕ) → KeepsSound (new_class_array_decision program limits s thread frame name)
  new_class_array_keeps name =
      if_deep_keeps program limits start s t thread frame below stands 1 1 _
      (λ depth. with_int_keeps frame.activation.operands _
      (λ n. cond_both (not (class_exists program name)) _ _ KeepsSound
      (λ _. throws_keeps start stands thrown.NoClassDefFoundError)
      (λ _. length_keeps (array_of_class name) n depth)))

  -- Nested arrays.
  arrays_room_keeps : (class : List ℕ) (dimensions : ℕ) → HasDepth frame dimensions 1 → KeepsSound (new_arrays_room limits s thread class dimensions (counted_lengths dimensions frame.activation.operands))
  arrays_room_keeps class dimensions depth =
      let lengths = counted_lengths dimensions frame.activation.operands in
      let has = has_room_for_elements (arrays_made lengths) (elements_made lengths) limits s in
      cond_both (not (has_dimensions class dimensions)) _ _ KeepsSound
      (λ _. still t stands.sound)
      (λ no_more.
      let dimensioned = not-false (has_dimensions class dimensions) no_more in
      let some = has_some class dimensions dimensioned in
      cond_both (not has) _ _ KeepsSound
      (λ _. throws_keeps start stands thrown.OutOfMemoryError)
      (λ has_room.
      let room = room_for_elements_is (arrays_made lengths) (elements_made lengths) limits s (not-false has has_room) in
      let new = new_arrays (next_reference s.heap) class lengths in
      let count : length new ≡ arrays_made lengths = new_arrays_length (next_reference s.heap) class lengths in
      let longer = grown_length s.heap new in
      creation_keeps program limits start s t thread frame below stands dimensions (new_object.Arrays class dimensions) depth count
      (new_arrays_are program (s.heap ++ new) (next_reference s.heap) class lengths (omega arith) (omega arith))
      room.0 room.1
      (λ _. some_made_of lengths (subst (λ n. 0 < n) (sym (lengths_taken dimensions frame.activation.operands depth.there)) some)) (dimensioned, depth.there)))

  pub new_arrays_keeps : (class : List ℕ) (dimensions : ℕ) → KeepsSound (new_arrays_decision program limits s thread frame class dimensions)
  unfolding new_arrays_decision
  new_arrays_keeps class dimensions =
      if_deep_keeps program limits start s t thread frame below stands dimensions 1 _
      (λ depth. cond_both (not (list_all is_int (lengths_in dimensions frame.activation.operands))) _ _ KeepsSound
      (λ _. still t stands.sound)
      (λ _. cond_both (not (class_exists program class)) _ _ KeepsSound
      (λ _. throws_keeps start stands thrown.NoClassDefFoundError)
      (λ _. cond_both (list_any is_negative (lengths_in dimensions frame.activation.operands)) _ _ KeepsSound
      (λ _. throws_keeps start stands thrown.NegativeArraySizeException)
      (λ _. arrays_room_keeps class dimensions depth))))

  -- ---- The length of an array

  measured_keeps : (r : ℕ) (o : Object) → HasDepth frame 1 1 → KeepsSound (object_length_decision r o)
  measured_keeps r (array class elements) depth =
      reaches_keeps program limits start s t thread frame below stands effect.Nothing (frame_action.Push 1 (value.Int (pos (length elements))))
      (λ _. record { sound = stands.sound; room = (depth.there, depth.room); value = tt; heard = tt; can_be_made = λ _. tt })
  measured_keeps r (instance class fields) depth = still t stands.sound
  measured_keeps r (text units) depth = still t stands.sound
  measured_keeps r (class_object name) depth = still t stands.sound

  array_length_keeps : (operands : List Value) → HasDepth frame 1 1 → KeepsSound (array_length_decision limits s thread operands)
  array_length_keeps (v ∷ others) depth = with_object_keeps v object_length_decision (λ r o at. measured_keeps r o depth)
  array_length_keeps [] depth = still t stands.sound

  -- ---- Loads

  loaded_keeps : (r : ℕ) (n : ℤ) (o : Option Value) → IfSome o (IsValue s.heap) → KeepsSound (element_load_decision limits s thread frame r n o)
  loaded_keeps r n None is = throws_keeps start stands thrown.ArrayIndexOutOfBoundsException
  loaded_keeps r n (Some v) is =
      read_keeps program limits start s t thread frame below stands (effect.LoadElement r (unsigned_abs n)) 2 (Some v) stands.sound is tt tt

  element_is : (elements : List Value) (n : ℤ) (o : Option Value) → o ≡ element_at elements n → AllByRecursion (IsValue s.heap) elements → IfSome o (IsValue s.heap)
  element_is elements n None at values = tt
  element_is elements n (Some v) at values = element_is_value s.heap elements n v values (sym at)

  load_from_keeps : (k : ArrayKind) (n : ℤ) (r : ℕ) (o : Object) → IsObject program s.heap o → KeepsSound (load_from limits s thread frame k n r o)
  load_from_keeps k n r (array class elements) is =
      cond_both (serves k (component_type class)) _ _ KeepsSound
      (λ _. loaded_keeps r n (element_at elements n) (element_is elements n (element_at elements n) refl is))
      (λ _. still t stands.sound)
  load_from_keeps k n r (instance class fields) is = still t stands.sound
  load_from_keeps k n r (text units) is = still t stands.sound
  load_from_keeps k n r (class_object name) is = still t stands.sound

  load_keeps : (k : ArrayKind) (operands : List Value) → KeepsSound (load_operands limits s thread frame k operands)
  load_keeps k (value.Int n ∷ o ∷ others) =
      with_object_keeps o (load_from limits s thread frame k n) (λ r p at. load_from_keeps k n r p (object_is program s.heap r p stands.sound.objects_are at))
  load_keeps k _ = still t stands.sound

  -- ---- Stores

  abbrev HasStored : ArrayKind → Type 0
  HasStored k = HasDepth frame (2 + element_size k) 0

  stored_keeps : (k : ArrayKind) (v : Value) (n : ℤ) (r : ℕ) (class : List ℕ) (o : Option Value) → HasStored k → IsValue s.heap v → IfSome (object_at s.heap r) (ElementsCanHold (stored_as (component_type class) v)) → KeepsSound (element_store_decision program limits s thread frame.activation k v n r class o)
  stored_keeps k v n r class None depth is holds = throws_keeps start stands thrown.ArrayIndexOutOfBoundsException
  stored_keeps k v n r class (Some old) depth is holds =
      let kept = stored_as (component_type class) v in
      cond_both (is_reference_kind k && not (fits_component program s class v)) _ _ KeepsSound
      (λ _. throws_keeps start stands thrown.ArrayStoreException)
      (λ _. reaches_keeps program limits start s t thread frame below stands (effect.StoreElement r (unsigned_abs n) kept) (next_action (2 + element_size k) frame.activation)
      (λ _. record { sound = put_element_is_sound stands.sound r (unsigned_abs n) kept (stored_is_value s.heap (component_type class) v is); room = depth.there; value = tt; heard = tt; can_be_made = λ _. holds }))

  store_to_keeps : (k : ArrayKind) (v : Value) (n : ℤ) (r : ℕ) (o : Object) → HasStored k → object_at s.heap r ≡ Some o → is_of_kind (kind_of_elements k) v ≡ true → IsValue s.heap v → KeepsSound (store_to program limits s thread frame.activation k v n r o)
  store_to_keeps k v n r (array class elements) depth at loads is =
      let type = component_type class in
      cond_both (serves k type) _ _ KeepsSound
      (λ serves_it. stored_keeps k v n r class (element_at elements n) depth is
      (subst (λ o. IfSome o (ElementsCanHold (stored_as type v))) (sym at) (stored_can_be_held s.heap k type v serves_it loads is)))
      (λ _. still t stands.sound)
  store_to_keeps k v n r (instance class fields) depth at loads is = still t stands.sound
  store_to_keeps k v n r (text units) depth at loads is = still t stands.sound
  store_to_keeps k v n r (class_object name) depth at loads is = still t stands.sound

  store_below_keeps : (k : ArrayKind) (v : Value) (operands : List Value) → HasStored k → is_of_kind (kind_of_elements k) v ≡ true → IsValue s.heap v → KeepsSound (store_below program limits s thread frame.activation k v operands)
  store_below_keeps k v (value.Int n ∷ o ∷ others) depth loads is =
      with_object_keeps o (store_to program limits s thread frame.activation k v n) (λ r p at. store_to_keeps k v n r p depth at loads is)
  store_below_keeps k v _ depth loads is = still t stands.sound

  store_keeps : (k : ArrayKind) (o : Option Value) → HasStored k → IfSome o (λ v. IsValue s.heap v × (is_of_kind (kind_of_elements k) v ≡ true)) → KeepsSound (store_operands program limits s thread frame.activation k o)
  store_keeps k None depth is = still t stands.sound
  store_keeps k (Some v) depth is = store_below_keeps k v (drop (element_size k) frame.activation.operands) depth is.1 is.0

  -- ---- The instructions that name no class

  pub array_keeps : (i : ArrayInsn) → KeepsSound (array_decision program limits s thread frame i)
  unfolding array_decision
  array_keeps (array_insn.New type) = new_array_keeps type
  array_keeps array_insn.Length =
      if_deep_keeps program limits start s t thread frame below stands 1 1 _ (λ depth. array_length_keeps frame.activation.operands depth)
  array_keeps (array_insn.Load k) =
      if_deep_keeps program limits start s t thread frame below stands 2 (element_size k) _ (λ _. load_keeps k frame.activation.operands)
  array_keeps (array_insn.Store k) =
      if_deep_keeps program limits start s t thread frame below stands (2 + element_size k) 0 _
      (λ depth. store_keeps k (top_value (kind_of_elements k) frame.activation.operands) depth (top_is_of_kind s.heap (kind_of_elements k) frame.activation.operands (frame_is_fit frame below stands).operands))
