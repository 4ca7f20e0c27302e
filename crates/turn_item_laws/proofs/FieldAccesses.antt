-- A field instruction that succeeds reads or writes the variable that the states determine.
use Rattle.std.proofs.Common.{List, None, Option, Some, [], ap, false, not, refl, sym, ℕ, ◌+◌, ◌∙◌, ◌∷◌, ◌≡◌}
use Rattle.std.proofs.lemmas.Bool.{cond-false, cond-true, cond_both}
use Rattle.std.specs.List.{filter}
use Rattle.std.specs.Prelude.{Err, Ok, Result}
use Rattle.jvms_file.specs.Descriptors.{units_of}
use Rattle.jvms_file.specs.declared.descriptor.FieldType.{FieldType}
use Rattle.jvms_file.specs.declared.insn.FieldUse.{FieldUse}
use Rattle.jvms_file.specs.declared.insn.FieldUse.TheVariants as field_use
use Rattle.jvms_program.specs.BuiltIn.{is_built_in}
use Rattle.jvms_program.specs.Program.{field_key_at}
use Rattle.jvms_program.specs.Resolution.{ResolvedField, field_number, fits, is_static_use, resolved_field}
use Rattle.jvms_program.specs.declared.key.FieldKey.{FieldKey}
use Rattle.jvms_program.specs.declared.number.FieldNumber.{FieldNumber}
use Rattle.jvms_program.specs.declared.program.Class.{Class}
use Rattle.jvms_program.specs.declared.program.FieldReference.{FieldReference}
use Rattle.jvms_program.specs.declared.thrown.Thrown.{Thrown}
use Rattle.jvms_program.specs.declared.thrown.Thrown.TheVariants as thrown
use Rattle.jvms_machine.specs.Actions.{effect_items, event, field_variable}
use Rattle.jvms_machine.specs.Activations.{has_depth}
use Rattle.jvms_machine.specs.Decisions.{TurnDecision, never_seen}
use Rattle.jvms_machine.specs.Fields.{are_of_field, field_decision, field_gives, field_takes, fields_of, found_field_decision, instance_decision, numbered_field_decision, object_decision, object_of_use, read_decision, receiver_decision, resolved_field_decision, static_decision, next_action, write_decision}
use Rattle.jvms_machine.specs.Heap.{stored_as, value_of}
use Rattle.jvms_machine.specs.Places.{kind_of_type, top_value, value_size}
use Rattle.jvms_machine.specs.State.{MethodFrame, Object, State, Thread, class_of, object_at}
use Rattle.jvms_machine.specs.declared.action.Effect.{Effect}
use Rattle.jvms_machine.specs.declared.action.Effect.TheVariants as effect
use Rattle.jvms_machine.specs.declared.action.FrameAction.TheVariants as frame_action
use Rattle.jvms_machine.specs.declared.machine.BadCause.TheVariants as cause
use Rattle.jvms_machine.specs.declared.machine.Limits.{Limits}
use Rattle.jvms_machine.specs.declared.machine.Outcome.TheVariants as outcome
use Rattle.jvms_machine.specs.declared.trace.Item.{Item}
use Rattle.jvms_machine.specs.declared.trace.Item.TheVariants as item
use Rattle.jvms_machine.specs.declared.trace.Variable.{Variable}
use Rattle.jvms_machine.specs.declared.trace.Variable.TheVariants as variable
use Rattle.jvms_machine.specs.declared.value.Value.{Value}
use Rattle.jvms_machine.specs.declared.value.Value.TheVariants as value
use Rattle.turn_item_laws.proofs.CallLeaves.{IsOfCalls}
use Rattle.turn_item_laws.proofs.DecisionWalks.{IsOfTests, class_use_has}
use Rattle.turn_item_laws.proofs.ResolvedFields.{numbered_key}
use Rattle.turn_item_laws.specs.Accesses.{field_access, is_access, of_object, of_program, resolved_access}
use Rattle.turn_item_laws.specs.Joins.{is_join}

-- ---- The items of an effect

-- The item of a field's variable is that of its key.
read_is : (t : ℕ) (make : FieldKey → Variable) (key : FieldKey) → filter is_access (event (λ v. item.Read t v) (field_variable make (Some key))) ≡ of_program key (item.Read t (make key))
read_is t make key =
    cond_both (is_built_in key.class) _ _ (λ (o : Option Variable). filter is_access (event (λ v. item.Read t v) o) ≡ of_program key (item.Read t (make key)))
    (λ is. sym (cond-true (is_built_in key.class) [] (item.Read t (make key) ∷ []) is))
    (λ is. sym (cond-false (is_built_in key.class) [] (item.Read t (make key) ∷ []) is))

write_is : (t : ℕ) (make : FieldKey → Variable) (key : FieldKey) → filter is_access (event (λ v. item.Write t v) (field_variable make (Some key))) ≡ of_program key (item.Write t (make key))
write_is t make key =
    cond_both (is_built_in key.class) _ _ (λ (o : Option Variable). filter is_access (event (λ v. item.Write t v) o) ≡ of_program key (item.Write t (make key)))
    (λ is. sym (cond-true (is_built_in key.class) [] (item.Write t (make key) ∷ []) is))
    (λ is. sym (cond-false (is_built_in key.class) [] (item.Write t (make key) ∷ []) is))

no_joins : (make : Variable → Item) → ((v : Variable) → is_join (make v) ≡ false) → (o : Option Variable) → filter is_join (event make o) ≡ []
no_joins make not None = refl
no_joins make not (Some v) = cond-false (is_join (make v)) (make v ∷ []) [] (not v)

module _ (program : List Class) (limits : Limits) (s : State) (t : ℕ) (thread : Thread) (frame : MethodFrame) (accesses : List Item) (P : TurnDecision → Type 0) (leaves : IsOfCalls program limits s t thread frame [] accesses P) where
  field_tests : IsOfTests limits s thread P
  field_tests = leaves.of_tests

  field_unmade : P never_seen
  field_unmade = field_tests.unmade (outcome.Bad cause.OutOfProfile)

  -- A read or a write that succeeds.
  reads : (what : Effect (List ℕ)) (takes : ℕ) (o : Option Value) → filter is_join (effect_items program t what) ≡ [] → filter is_access (effect_items program t what) ≡ accesses → P (read_decision frame what takes o)
  reads what takes None quiet is = field_unmade
  reads what takes (Some v) quiet is =
      cond_both (has_depth frame.body takes (value_size v) frame.activation) _ _ P
      (λ _. leaves.reached what (frame_action.Push takes v) refl (λ _. quiet) is)
      (λ _. field_tests.unmade (outcome.Bad cause.Depth))

  writes : (what : Value → Effect (List ℕ)) (takes : ℕ) (type : FieldType) (o : Option Value) → ((v : Value) → filter is_join (effect_items program t (what v)) ≡ []) → ((v : Value) → filter is_access (effect_items program t (what v)) ≡ accesses) → P (write_decision frame what takes type o)
  writes what takes type None quiet is = field_unmade
  writes what takes type (Some v) quiet is =
      leaves.reached (what (stored_as type v)) (next_action takes frame.activation) refl (λ _. quiet (stored_as type v)) (is (stored_as type v))

  -- ---- The field of a number

  -- The number has the key, and the access is that of the key with the operands.
  module _ (n : FieldNumber) (key : FieldKey) (at : field_key_at program n ≡ Some key) where
    quiet_read : (make : FieldKey → Variable) → filter is_join (event (λ v. item.Read t v) (field_variable make (field_key_at program n))) ≡ []
    quiet_read make = no_joins (λ v. item.Read t v) (λ v. refl) (field_variable make (field_key_at program n))

    quiet_write : (make : FieldKey → Variable) → filter is_join (event (λ v. item.Write t v) (field_variable make (field_key_at program n))) ≡ []
    quiet_write make = no_joins (λ v. item.Write t v) (λ v. refl) (field_variable make (field_key_at program n))

    reads_key : (make : FieldKey → Variable) → filter is_access (event (λ v. item.Read t v) (field_variable make (field_key_at program n))) ≡ of_program key (item.Read t (make key))
    reads_key make = ap (λ o. filter is_access (event (λ v. item.Read t v) (field_variable make o))) at ∙ read_is t make key

    writes_key : (make : FieldKey → Variable) → filter is_access (event (λ v. item.Write t v) (field_variable make (field_key_at program n))) ≡ of_program key (item.Write t (make key))
    writes_key make = ap (λ o. filter is_access (event (λ v. item.Write t v) (field_variable make o))) at ∙ write_is t make key

    static_has : (how : FieldUse) (type : FieldType) → field_access t how type key frame.activation.operands ≡ accesses → P (static_decision s frame how type n key)
    static_has field_use.GetStatic type is = reads (effect.GetStatic n) 0 (value_of key s.statics) (quiet_read (λ k. variable.Static k)) (reads_key (λ k. variable.Static k) ∙ is)
    static_has field_use.PutStatic type is =
        writes (λ v. effect.PutStatic n v) (units_of type) type (top_value (kind_of_type type) frame.activation.operands)
        (λ _. quiet_write (λ k. variable.Static k))
        (λ _. writes_key (λ k. variable.Static k) ∙ is)
    static_has field_use.Get type is = field_unmade
    static_has field_use.Put type is = field_unmade

    object_has : (how : FieldUse) (type : FieldType) (r : ℕ) (o : Object) → object_of_use how type frame.activation.operands ≡ Some (value.Reference r) → field_access t how type key frame.activation.operands ≡ accesses → P (object_decision frame how type n key r o)
    object_has field_use.Get type r o of_use is =
        reads (effect.GetField r n) 1 (value_of key (fields_of o)) (quiet_read (λ k. variable.Instance r k))
        (reads_key (λ k. variable.Instance r k) ∙ sym (ap (of_object key (λ v. item.Read t v)) of_use) ∙ is)
    object_has field_use.Put type r o of_use is =
        writes (λ v. effect.PutField r n v) (1 + units_of type) type (top_value (kind_of_type type) frame.activation.operands)
        (λ _. quiet_write (λ k. variable.Instance r k))
        (λ _. writes_key (λ k. variable.Instance r k) ∙ sym (ap (of_object key (λ v. item.Write t v)) of_use) ∙ is)
    object_has field_use.GetStatic type r o of_use is = field_unmade
    object_has field_use.PutStatic type r o of_use is = field_unmade

    receiver_has : (how : FieldUse) (type : FieldType) (r : ℕ) (o : Option Object) → object_of_use how type frame.activation.operands ≡ Some (value.Reference r) → field_access t how type key frame.activation.operands ≡ accesses → P (receiver_decision program frame how type n key r o)
    receiver_has how type r None of_use is = field_unmade
    receiver_has how type r (Some o) of_use is =
        cond_both (fits program (class_of o) key.class) _ _ P (λ _. object_has how type r o of_use is) (λ _. field_tests.unmade (outcome.Bad cause.Kind))

    instance_has : (how : FieldUse) (type : FieldType) (o : Option Value) → object_of_use how type frame.activation.operands ≡ o → field_access t how type key frame.activation.operands ≡ accesses → P (instance_decision program limits s thread frame how type n key o)
    instance_has how type (Some (value.Reference r)) of_use is = receiver_has how type r (object_at s.heap r) of_use is
    instance_has how type (Some value.Null) of_use is = field_tests.thrown_by thrown.NullPointerException
    instance_has how type _ of_use is = field_unmade

    keyed_has : (how : FieldUse) (type : FieldType) → field_access t how type key frame.activation.operands ≡ accesses → P (numbered_field_decision program limits s t thread frame how type n (Some key))
    keyed_has how type is =
        cond_both (is_static_use how) _ _ P
        (λ _. class_use_has program limits s t thread P field_tests n.class _ (static_has how type is))
        (λ _. instance_has how type (object_of_use how type frame.activation.operands) refl is)

  -- ---- The field of a reference

  numbered_has : (how : FieldUse) (type : FieldType) (n : FieldNumber) (o : Option FieldKey) → field_key_at program n ≡ o → ((key : FieldKey) → o ≡ Some key → field_access t how type key frame.activation.operands ≡ accesses) → P (numbered_field_decision program limits s t thread frame how type n o)
  numbered_has how type n None at is = field_unmade
  numbered_has how type n (Some key) at is = keyed_has n key at how type (is key refl)

  found_has : (how : FieldUse) (type : FieldType) (o : Option FieldNumber) → ((n : FieldNumber) (key : FieldKey) → o ≡ Some n → field_key_at program n ≡ Some key → field_access t how type key frame.activation.operands ≡ accesses) → P (found_field_decision program limits s t thread frame how type o)
  found_has how type None is = field_unmade
  found_has how type (Some n) is = numbered_has how type n (field_key_at program n) refl (λ key at. is n key refl at)

  resolved_has : (how : FieldUse) (r : FieldReference) (o : Result ResolvedField Thrown) → resolved_field program (is_static_use how) r ≡ o → resolved_access t how r.field_type frame.activation.operands o ≡ accesses → P (resolved_field_decision program limits s t thread frame how r.field_type o)
  resolved_has how r (Err class) resolved is = field_tests.thrown_by class
  resolved_has how r (Ok found) resolved is =
      found_has how r.field_type (field_number program found)
      (λ n key number at. ap (λ (k : FieldKey). field_access t how r.field_type k frame.activation.operands) (numbered_key program (is_static_use how) r found n key resolved number at) ∙ is)

  pub field_has : (how : FieldUse) (r : FieldReference) → resolved_access t how r.field_type frame.activation.operands (resolved_field program (is_static_use how) r) ≡ accesses → P (field_decision program limits s t thread frame how r)
  unfolding field_decision
  field_has how r is =
      cond_both (not (has_depth frame.body (field_takes how r.field_type) (field_gives how r.field_type) frame.activation)) _ _ P
      (λ _. field_tests.unmade (outcome.Bad cause.Depth))
      (λ _. cond_both (not (are_of_field how r.field_type frame.activation.operands)) _ _ P
      (λ _. field_tests.unmade (outcome.Bad cause.Kind))
      (λ _. resolved_has how r (resolved_field program (is_static_use how) r) refl is))
