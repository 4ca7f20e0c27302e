-- A turn that reads or writes a field keeps a sound state sound. A value that is read is one of the state, and a stored
-- value was an operand.
use Rattle.std.proofs.Common.{◌≡◌, ℕ, ◌+◌, ◌≤◌, Bool, not, List, ◌∷◌, length, Option, None, Some, IfSome, refl, sym}
use Rattle.std.specs.Prelude.{Result, Ok, Err}
use Rattle.std.specs.List.{AllByRecursion}
use Rattle.std.specs.Map.{lookup}
use Rattle.std.proofs.lemmas.Bool.{cond_both, not-false}
use Rattle.jvms_machine.specs.declared.value.Value.{Value}
use Rattle.jvms_machine.specs.declared.value.Value.TheVariants as value
use Rattle.jvms_machine.specs.declared.machine.Limits.{Limits}
use Rattle.jvms_machine.specs.declared.state.StackFrame.TheVariants as stack_frame
use Rattle.jvms_machine.specs.declared.action.Effect.TheVariants as effect
use Rattle.jvms_file.specs.declared.descriptor.FieldType.{FieldType}
use Rattle.jvms_file.specs.declared.insn.FieldUse.{FieldUse}
use Rattle.jvms_file.specs.declared.insn.FieldUse.TheVariants as field_use
use Rattle.jvms_program.specs.declared.number.FieldNumber.{FieldNumber}
use Rattle.jvms_program.specs.declared.key.FieldKey.{FieldKey}
use Rattle.jvms_program.specs.declared.program.Class.{Class}
use Rattle.jvms_program.specs.declared.program.FieldReference.{FieldReference}
use Rattle.jvms_program.specs.declared.thrown.Thrown.{Thrown}
use Rattle.jvms_program.specs.declared.thrown.Thrown.TheVariants as thrown
use Rattle.jvms_program.specs.Program.{field_key_at}
use Rattle.jvms_program.specs.Resolution.{ResolvedField, fits, resolved_field, field_number, is_static_use}
use Rattle.jvms_machine.specs.Decisions.{TurnDecision}
use Rattle.jvms_machine.specs.State.{State, Object, Thread, Frame, MethodFrame, object_at, class_of, IsValue}
use Rattle.jvms_file.specs.Descriptors.{units_of}
use Rattle.jvms_machine.specs.Places.{kind_of_type, top_value}
use Rattle.jvms_machine.specs.Start.{Start}
use Rattle.jvms_machine.specs.Activations.{has_depth}
use Rattle.jvms_program.specs.Slots.{same_key}
use Rattle.jvms_machine.specs.Heap.{stored_as, value_of}
use Rattle.jvms_machine.specs.Fields.{field_takes, field_gives, are_of_field, next_action, write_decision, static_decision, fields_of, object_decision, receiver_decision, object_of_use, instance_decision, numbered_field_decision, found_field_decision, resolved_field_decision, field_decision}
use Rattle.jvms_machine.proofs.ThreadChanges.{Stands}
use Rattle.jvms_machine.proofs.KeptStates.{Keeps, still}
use Rattle.jvms_machine.proofs.ExceptionSoundness.{throws_keeps}
use Rattle.jvms_machine.proofs.InitialisationSoundness.{class_use_keeps}
use Rattle.jvms_machine.proofs.StoredValues.{looked_up_is_value, object_is, fields_are_values, stored_is_value}
use Rattle.jvms_machine.proofs.ObjectSoundness.{put_field_is_sound, put_static_is_sound}
use Rattle.jvms_machine.proofs.EffectSoundness.{HasDepth, depth_is, frame_is_fit, reaches_keeps, read_keeps}
use Rattle.jvms_machine.proofs.PlaceLaws.{IsWhole, top_is_whole}

module _ (program : List Class) (limits : Limits) (start : Start) (s : State) (t : ℕ) (thread : Thread) (frame : MethodFrame) (below : List Frame) (stands : Stands program limits s t thread (stack_frame.Call frame ∷ below)) where
  abbrev KeepsSound : TurnDecision → Type 0
  KeepsSound d = Keeps program limits start s t d

  -- A value that is found is a value of the state.
  found_value : (test : FieldKey → Bool) (fields : List (FieldKey × Value)) (o : Option Value) → o ≡ lookup test fields → AllByRecursion (λ f. IsValue s.heap f.1) fields → IfSome o (IsValue s.heap)
  found_value test fields None is values = tt
  found_value test fields (Some v) is values = looked_up_is_value s.heap test fields v values (sym is)

  -- The topmost operand is a value of the state.
  top_is : (type : FieldType) → IsWhole s.heap (kind_of_type type) (top_value (kind_of_type type) frame.activation.operands)
  top_is type = top_is_whole s.heap (kind_of_type type) frame.activation.operands (frame_is_fit frame below stands).operands

  -- ---- Static fields

  put_static_keeps : (n : FieldNumber) (type : FieldType) (o : Option Value) → units_of type ≤ length frame.activation.operands → IsWhole s.heap (kind_of_type type) o → KeepsSound (write_decision frame (λ v. effect.PutStatic n v) (units_of type) type o)
  put_static_keeps n type None there whole = still t stands.sound
  put_static_keeps n type (Some v) there whole =
      reaches_keeps program limits start s t thread frame below stands (effect.PutStatic n (stored_as type v)) (next_action (units_of type) frame.activation)
      (λ _. record { sound = put_static_is_sound stands.sound (stored_as type v) (field_key_at program n) (stored_is_value s.heap type v whole.0); room = there; value = tt; heard = tt; can_be_made = λ _. tt })

  static_keeps : (how : FieldUse) (type : FieldType) (n : FieldNumber) (key : FieldKey) → HasDepth frame (field_takes how type) (field_gives how type) → KeepsSound (static_decision s frame how type n key)
  static_keeps field_use.GetStatic type n key depth =
      read_keeps program limits start s t thread frame below stands (effect.GetStatic n) 0 (value_of key s.statics) stands.sound
      (found_value (λ k. same_key k key) s.statics (value_of key s.statics) refl stands.sound.static_values) tt tt
  static_keeps field_use.PutStatic type n key depth =
      put_static_keeps n type (top_value (kind_of_type type) frame.activation.operands) depth.there (top_is type)
  static_keeps _ type n key depth = still t stands.sound

  -- ---- Fields of objects

  put_field_keeps : (r : ℕ) (n : FieldNumber) (type : FieldType) (o : Option Value) → 1 + units_of type ≤ length frame.activation.operands → IsWhole s.heap (kind_of_type type) o → KeepsSound (write_decision frame (λ v. effect.PutField r n v) (1 + units_of type) type o)
  put_field_keeps r n type None there whole = still t stands.sound
  put_field_keeps r n type (Some v) there whole =
      reaches_keeps program limits start s t thread frame below stands (effect.PutField r n (stored_as type v)) (next_action (1 + units_of type) frame.activation)
      (λ _. record { sound = put_field_is_sound stands.sound r (stored_as type v) (field_key_at program n) (stored_is_value s.heap type v whole.0); room = there; value = tt; heard = tt; can_be_made = λ _. tt })

  object_keeps : (how : FieldUse) (type : FieldType) (n : FieldNumber) (key : FieldKey) (r : ℕ) (o : Object) → HasDepth frame (field_takes how type) (field_gives how type) → object_at s.heap r ≡ Some o → KeepsSound (object_decision frame how type n key r o)
  object_keeps field_use.Get type n key r o depth at =
      read_keeps program limits start s t thread frame below stands (effect.GetField r n) 1 (value_of key (fields_of o)) stands.sound
      (found_value (λ k. same_key k key) (fields_of o) (value_of key (fields_of o)) refl (fields_are_values program s.heap o (object_is program s.heap r o stands.sound.objects_are at))) tt tt
  object_keeps field_use.Put type n key r o depth at =
      put_field_keeps r n type (top_value (kind_of_type type) frame.activation.operands) depth.there (top_is type)
  object_keeps _ type n key r o depth at = still t stands.sound

  receiver_keeps : (how : FieldUse) (type : FieldType) (n : FieldNumber) (key : FieldKey) (r : ℕ) (o : Option Object) → HasDepth frame (field_takes how type) (field_gives how type) → object_at s.heap r ≡ o → KeepsSound (receiver_decision program frame how type n key r o)
  receiver_keeps how type n key r None depth at = still t stands.sound
  receiver_keeps how type n key r (Some o) depth at =
      cond_both (fits program (class_of o) key.class) _ _ KeepsSound
      (λ _. object_keeps how type n key r o depth at)
      (λ _. still t stands.sound)

  instance_keeps : (how : FieldUse) (type : FieldType) (n : FieldNumber) (key : FieldKey) (v : Option Value) → HasDepth frame (field_takes how type) (field_gives how type) → KeepsSound (instance_decision program limits s thread frame how type n key v)
  instance_keeps how type n key (Some (value.Reference r)) depth = receiver_keeps how type n key r (object_at s.heap r) depth refl
  instance_keeps how type n key (Some value.Null) depth = throws_keeps start stands thrown.NullPointerException
  instance_keeps how type n key _ depth = still t stands.sound

  -- ---- The field of a number

  numbered_keeps : (how : FieldUse) (type : FieldType) (n : FieldNumber) (o : Option FieldKey) → HasDepth frame (field_takes how type) (field_gives how type) → KeepsSound (numbered_field_decision program limits s t thread frame how type n o)
  numbered_keeps how type n None depth = still t stands.sound
  numbered_keeps how type n (Some key) depth =
      cond_both (is_static_use how) _ _ KeepsSound
      (λ _. class_use_keeps program limits start s t thread stands n.class _ (static_keeps how type n key depth))
      (λ _. instance_keeps how type n key (object_of_use how type frame.activation.operands) depth)

  found_keeps : (how : FieldUse) (type : FieldType) (o : Option FieldNumber) → HasDepth frame (field_takes how type) (field_gives how type) → KeepsSound (found_field_decision program limits s t thread frame how type o)
  found_keeps how type None depth = still t stands.sound
  found_keeps how type (Some n) depth = numbered_keeps how type n (field_key_at program n) depth

  resolved_keeps : (how : FieldUse) (type : FieldType) (found : Result ResolvedField Thrown) → HasDepth frame (field_takes how type) (field_gives how type) → KeepsSound (resolved_field_decision program limits s t thread frame how type found)
  resolved_keeps how type (Err class) depth = throws_keeps start stands class
  resolved_keeps how type (Ok f) depth = found_keeps how type (field_number program f) depth

  pub field_keeps : (how : FieldUse) (r : FieldReference) → KeepsSound (field_decision program limits s t thread frame how r)
  unfolding field_decision
  field_keeps how r =
      let deep = has_depth frame.body (field_takes how r.field_type) (field_gives how r.field_type) frame.activation in
      cond_both (not deep) _ _ KeepsSound
      (λ _. still t stands.sound)
      (λ is_deep. cond_both (not (are_of_field how r.field_type frame.activation.operands)) _ _ KeepsSound
      (λ _. still t stands.sound)
      (λ _. resolved_keeps how r.field_type (resolved_field program (is_static_use how) r) (depth_is frame (field_takes how r.field_type) (field_gives how r.field_type) (not-false deep is_deep))))
