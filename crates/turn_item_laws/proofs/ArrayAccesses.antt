-- A load or store of an array that succeeds reads or writes the element that the states determine.
use Rattle.std.proofs.Common.{List, None, Option, Some, [], ap, drop, not, refl, sym, ℕ, ◌&&◌, ◌+◌, ◌∙◌, ◌∷◌, ◌≡◌}
use Rattle.std.proofs.lemmas.Bool.{cond_both}
use Rattle.std.specs.Prelude.{unsigned_abs, ℤ}
use Rattle.jvms_file.specs.declared.insn.ArrayInsn.TheVariants as array_insn
use Rattle.jvms_file.specs.declared.insn.ArrayKind.{ArrayKind}
use Rattle.jvms_program.specs.declared.program.Class.{Class}
use Rattle.jvms_program.specs.declared.thrown.Thrown.TheVariants as thrown
use Rattle.jvms_machine.specs.Activations.{has_depth}
use Rattle.jvms_machine.specs.Arrays.{element_at, element_size, fits_component, if_deep, is_reference_kind, kind_of_elements, load_from, load_operands, element_load_decision, serves, store_below, store_operands, store_to, element_store_decision}
use Rattle.jvms_machine.specs.Decisions.{TurnDecision, bad}
use Rattle.jvms_machine.specs.Fields.{next_action}
use Rattle.jvms_machine.specs.Heap.{component_type, stored_as}
use Rattle.jvms_machine.specs.Places.{top_value, value_size}
use Rattle.jvms_machine.specs.State.{MethodFrame, Object, State, Thread, array, class_object, instance, text}
use Rattle.jvms_machine.specs.declared.action.Effect.TheVariants as effect
use Rattle.jvms_machine.specs.declared.action.FrameAction.TheVariants as frame_action
use Rattle.jvms_machine.specs.declared.machine.BadCause.TheVariants as cause
use Rattle.jvms_machine.specs.declared.machine.Limits.{Limits}
use Rattle.jvms_machine.specs.declared.machine.Outcome.TheVariants as outcome
use Rattle.jvms_machine.specs.declared.trace.Item.{Item}
use Rattle.jvms_machine.specs.declared.trace.Item.TheVariants as item
use Rattle.jvms_machine.specs.declared.trace.Variable.TheVariants as variable
use Rattle.jvms_machine.specs.declared.value.Value.{Value}
use Rattle.jvms_machine.specs.declared.value.Value.TheVariants as value
use Rattle.turn_item_laws.proofs.CallLeaves.{IsOfCalls}
use Rattle.turn_item_laws.proofs.DecisionWalks.{IsOfTests, if_deep_has, with_object_has}
use Rattle.turn_item_laws.specs.Accesses.{array_access, of_element}

module _ (program : List Class) (limits : Limits) (s : State) (t : ℕ) (thread : Thread) (frame : MethodFrame) (accesses : List Item) (P : TurnDecision → Type 0) (leaves : IsOfCalls program limits s t thread frame [] accesses P) where
  array_tests : IsOfTests limits s thread P
  array_tests = leaves.of_tests

  kind_unmade : P (bad cause.Kind)
  kind_unmade = array_tests.unmade (outcome.Bad cause.Kind)

  -- ---- Loads

  loaded_has : (r : ℕ) (n : ℤ) (o : Option Value) → item.Read t (variable.Element r (unsigned_abs n)) ∷ [] ≡ accesses → P (element_load_decision limits s thread frame r n o)
  loaded_has r n None is = array_tests.thrown_by thrown.ArrayIndexOutOfBoundsException
  loaded_has r n (Some v) is =
      cond_both (has_depth frame.body 2 (value_size v) frame.activation) _ _ P
      (λ _. leaves.reached (effect.LoadElement r (unsigned_abs n)) (frame_action.Push 2 v) refl (λ _. refl) is)
      (λ _. array_tests.unmade (outcome.Bad cause.Depth))

  load_has : (k : ArrayKind) (n : ℤ) (r : ℕ) (o : Object) → item.Read t (variable.Element r (unsigned_abs n)) ∷ [] ≡ accesses → P (load_from limits s thread frame k n r o)
  load_has k n r (array class elements) is =
      cond_both (serves k (component_type class)) _ _ P (λ _. loaded_has r n (element_at elements n) is) (λ _. kind_unmade)
  load_has k n r (instance class fields) is = kind_unmade
  load_has k n r (text units) is = kind_unmade
  load_has k n r (class_object name) is = kind_unmade

  loads_have : (k : ArrayKind) (operands : List Value) → of_element (λ v. item.Read t v) operands ≡ accesses → P (load_operands limits s thread frame k operands)
  loads_have k (value.Int n ∷ o ∷ others) is =
      with_object_has program limits s t thread P array_tests o (load_from limits s thread frame k n)
      (λ r p o_is. load_has k n r p (sym (ap (λ (w : Value). of_element (λ v. item.Read t v) (value.Int n ∷ w ∷ others)) o_is) ∙ is))
  loads_have k _ is = kind_unmade

  -- ---- Stores

  stored_has : (k : ArrayKind) (v : Value) (n : ℤ) (r : ℕ) (class : List ℕ) (o : Option Value) → item.Write t (variable.Element r (unsigned_abs n)) ∷ [] ≡ accesses → P (element_store_decision program limits s thread frame.activation k v n r class o)
  stored_has k v n r class None is = array_tests.thrown_by thrown.ArrayIndexOutOfBoundsException
  stored_has k v n r class (Some old) is =
      cond_both (is_reference_kind k && not (fits_component program s class v)) _ _ P
      (λ _. array_tests.thrown_by thrown.ArrayStoreException)
      (λ _. leaves.reached (effect.StoreElement r (unsigned_abs n) (stored_as (component_type class) v)) (next_action (2 + element_size k) frame.activation) refl (λ _. refl) is)

  store_has : (k : ArrayKind) (v : Value) (n : ℤ) (r : ℕ) (o : Object) → item.Write t (variable.Element r (unsigned_abs n)) ∷ [] ≡ accesses → P (store_to program limits s thread frame.activation k v n r o)
  store_has k v n r (array class elements) is =
      cond_both (serves k (component_type class)) _ _ P (λ _. stored_has k v n r class (element_at elements n) is) (λ _. kind_unmade)
  store_has k v n r (instance class fields) is = kind_unmade
  store_has k v n r (text units) is = kind_unmade
  store_has k v n r (class_object name) is = kind_unmade

  below_has : (k : ArrayKind) (v : Value) (operands : List Value) → of_element (λ w. item.Write t w) operands ≡ accesses → P (store_below program limits s thread frame.activation k v operands)
  below_has k v (value.Int n ∷ o ∷ others) is =
      with_object_has program limits s t thread P array_tests o (store_to program limits s thread frame.activation k v n)
      (λ r p o_is. store_has k v n r p (sym (ap (λ (w : Value). of_element (λ x. item.Write t x) (value.Int n ∷ w ∷ others)) o_is) ∙ is))
  below_has k v _ is = kind_unmade

  stores_have : (k : ArrayKind) (o : Option Value) → array_access t (array_insn.Store k) frame.activation.operands ≡ accesses → P (store_operands program limits s thread frame.activation k o)
  stores_have k None is = kind_unmade
  stores_have k (Some v) is = below_has k v (drop (element_size k) frame.activation.operands) is

  pub loading_has : (k : ArrayKind) → array_access t (array_insn.Load k) frame.activation.operands ≡ accesses → P (if_deep frame 2 (element_size k) (load_operands limits s thread frame k frame.activation.operands))
  loading_has k is = if_deep_has program limits s t thread P array_tests frame 2 (element_size k) _ (loads_have k frame.activation.operands is)

  pub storing_has : (k : ArrayKind) → array_access t (array_insn.Store k) frame.activation.operands ≡ accesses → P (if_deep frame (2 + element_size k) 0 (store_operands program limits s thread frame.activation k (top_value (kind_of_elements k) frame.activation.operands)))
  storing_has k is =
      if_deep_has program limits s t thread P array_tests frame (2 + element_size k) 0 _
      (stores_have k (top_value (kind_of_elements k) frame.activation.operands) is)
