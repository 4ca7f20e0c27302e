-- The enabledness of turns that create objects or require their class, and of first calls and initialisations.
use Rattle.enabled_laws.proofs.EnabledTests.{AreValues, Same, class_use_same, called_same, found_for, if_deep_same, numbered_same, same_either, same_on, thrown_same, related_after, with_int_same}
use Rattle.enabled_laws.proofs.Heaps.{class_kept}
use Rattle.enabled_laws.proofs.Related.{Stays, readiness, on_either, throws_on}
use Rattle.jvms_file.specs.declared.insn.ArrayType.{ArrayType}
use Rattle.jvms_file.specs.declared.insn.ClassUse.{ClassUse}
use Rattle.jvms_machine.specs.Arrays.{counted_lengths, is_int, is_negative, length_decision, lengths_in, creation_decision, new_array_decision, new_arrays_decision, new_arrays_room, new_class_array_decision}
use Rattle.jvms_machine.specs.Calls.{entry_decision, first_call, first_call_decision, run_decision, run_of_class, selected_run}
use Rattle.jvms_machine.specs.Decisions.{TurnDecision}
use Rattle.jvms_machine.specs.Exceptions.{has_room_for, throws}
use Rattle.jvms_machine.specs.Heap.{array_of_class, array_of_type, arrays_made, elements_made, has_dimensions, has_room_for_elements}
use Rattle.jvms_machine.specs.Initialisation.{asked_superclass, initialisation_decision, initializer_call, initializer_decision, initializer_of, superclass_decision}
use Rattle.jvms_machine.specs.Objects.{cast, class_decision, existing_or_new, instance_of_number, is_instantiable, loadable_decision, creation_if_room, new_instance_decision, instance_test_result, with_class_of}
use Rattle.jvms_machine.specs.Profile.{is_outside_method}
use Rattle.jvms_machine.specs.Start.{Start}
use Rattle.jvms_machine.specs.State.{IsReference, MethodFrame, State, Thread, class_of, class_reference, text_reference}
use Rattle.jvms_machine.specs.declared.action.NewObject.{NewObject}
use Rattle.jvms_machine.specs.declared.machine.Limits.{Limits}
use Rattle.jvms_machine.specs.declared.value.Value.{Value}
use Rattle.jvms_program.specs.Program.{class_named, class_number, method_at}
use Rattle.jvms_program.specs.Resolution.{ResolvedMethod, class_exists, fits, method_number}
use Rattle.jvms_program.specs.declared.number.MethodNumber.{MethodNumber}
use Rattle.jvms_program.specs.declared.program.Body.{Body}
use Rattle.jvms_program.specs.declared.program.Class.{Class}
use Rattle.jvms_program.specs.declared.program.Loadable.{Loadable}
use Rattle.jvms_program.specs.declared.program.Method.{Method}
use Rattle.std.proofs.Common.{Bool, IfSome, List, None, Option, Some, ap, cond, false, length, nat_le, not, pos, refl, sym, true, ℕ, ℤ, ◌==◌, ◌∙◌, ◌∷◌, ◌≡◌}
use Rattle.std.specs.List.{list_all, list_any}
use Rattle.std.specs.Prelude.{int_lt, unsigned_abs}
use Rattle.jvms_machine.specs.declared.action.Action.TheVariants as action
use Rattle.jvms_file.specs.declared.insn.ClassUse.TheVariants as class_use
use Rattle.jvms_machine.specs.declared.action.Decision.TheVariants as decision
use Rattle.jvms_program.specs.declared.program.Loadable.TheVariants as loadable
use Rattle.jvms_machine.specs.declared.action.NewObject.TheVariants as new_object
use Rattle.jvms_program.specs.declared.thrown.Thrown.TheVariants as thrown
use Rattle.jvms_machine.specs.declared.value.Value.TheVariants as value

module _ {Rel : Bool → Bool → Type 0} {program : List Class} {limits : Limits} {s after : State} {u : ℕ} (thread : Thread) (stays : Stays Rel program limits s after u) where
  -- ---- New objects

  length_on : (st : State) (class : List ℕ) (n : ℤ) → readiness (length_decision limits st thread class n) ≡ Some true
  length_on st class n =
      on_either (int_lt n (pos 0)) _ _ (throws_on limits st thread thrown.NegativeArraySizeException)
      (on_either (not (has_room_for_elements 1 (unsigned_abs n) limits st)) _ _ (throws_on limits st thread thrown.OutOfMemoryError) refl)

  length_same : (class : List ℕ) (n : ℤ) → Same thread stays (length_decision limits s thread class n) (length_decision limits after thread class n)
  length_same class n = same_on thread stays (length_on after class n ∙ sym (length_on s class n))

  pub new_array_same : (frame : MethodFrame) (type : ArrayType) → Same thread stays (new_array_decision limits s thread frame type) (new_array_decision limits after thread frame type)
  new_array_same frame type =
      if_deep_same thread stays frame 1 1 _ _ (with_int_same thread stays frame.activation.operands (length_decision limits s thread (array_of_type type)) (length_decision limits after thread (array_of_type type)) (length_same (array_of_type type)))

  new_class_array_same : (frame : MethodFrame) (name : List ℕ) → Same thread stays (new_class_array_decision program limits s thread frame name) (new_class_array_decision program limits after thread frame name)
  new_class_array_same frame name =
      if_deep_same thread stays frame 1 1 _ _ (with_int_same thread stays frame.activation.operands _ _
      (λ n. same_either thread stays (not (class_exists program name)) _ _ _ _ (thrown_same thread stays thrown.NoClassDefFoundError) (length_same (array_of_class name) n)))

  arrays_on : (st : State) (class : List ℕ) (dimensions : ℕ) (lengths : List ℕ) → readiness (cond (not (has_room_for_elements (arrays_made lengths) (elements_made lengths) limits st)) (throws limits st thread thrown.OutOfMemoryError) (creation_decision st dimensions (new_object.Arrays class dimensions))) ≡ Some true
  arrays_on st class dimensions lengths =
      on_either (not (has_room_for_elements (arrays_made lengths) (elements_made lengths) limits st)) _ _ (throws_on limits st thread thrown.OutOfMemoryError) refl

  new_arrays_room_same : (class : List ℕ) (dimensions : ℕ) (lengths : List ℕ) → Same thread stays (new_arrays_room limits s thread class dimensions lengths) (new_arrays_room limits after thread class dimensions lengths)
  new_arrays_room_same class dimensions lengths =
      same_either thread stays (not (has_dimensions class dimensions)) _ _ _ _ (same_on thread stays refl) (same_on thread stays (arrays_on after class dimensions lengths ∙ sym (arrays_on s class dimensions lengths)))

  pub new_arrays_same : (frame : MethodFrame) (class : List ℕ) (dimensions : ℕ) → Same thread stays (new_arrays_decision program limits s thread frame class dimensions) (new_arrays_decision program limits after thread frame class dimensions)
  unfolding new_arrays_decision
  new_arrays_same frame class dimensions =
      if_deep_same thread stays frame dimensions 1 _ _
      (same_either thread stays (not (list_all is_int (lengths_in dimensions frame.activation.operands))) _ _ _ _ (same_on thread stays refl)
      (same_either thread stays (not (class_exists program class)) _ _ _ _ (thrown_same thread stays thrown.NoClassDefFoundError)
      (same_either thread stays (list_any is_negative (lengths_in dimensions frame.activation.operands)) _ _ _ _ (thrown_same thread stays thrown.NegativeArraySizeException)
      (new_arrays_room_same class dimensions (counted_lengths dimensions frame.activation.operands)))))

  made_on : (st : State) (takes : ℕ) (what : NewObject (List ℕ)) → readiness (creation_if_room limits st thread takes what) ≡ Some true
  made_on st takes what = on_either (has_room_for 1 limits st) _ _ refl (throws_on limits st thread thrown.OutOfMemoryError)

  instance_of_same : (o : Option ℕ) → Same thread stays (instance_of_number program limits s u thread o) (instance_of_number program limits after u thread o)
  instance_of_same None = same_on thread stays refl
  instance_of_same (Some class) =
      class_use_same thread stays class _ _ (same_on thread stays (made_on after 0 (new_object.Instance class) ∙ sym (made_on s 0 (new_object.Instance class))))

  new_same : (name : List ℕ) (o : Option Class) → Same thread stays (new_instance_decision program limits s u thread name o) (new_instance_decision program limits after u thread name o)
  new_same name None = thrown_same thread stays thrown.NoClassDefFoundError
  new_same name (Some c) =
      same_either thread stays (not (is_instantiable c.kind)) _ _ _ _ (thrown_same thread stays thrown.InstantiationError) (instance_of_same (class_number program name))

  cast_on : (st : State) (frame : MethodFrame) (b : Bool) → readiness (cast limits st thread frame b) ≡ Some true
  cast_on st frame true = refl
  cast_on st frame false = throws_on limits st thread thrown.ClassCastException

  instance_of_on : (b : Bool) → readiness (instance_test_result b) ≡ Some true
  instance_of_on true = refl
  instance_of_on false = refl

  with_class_same : (name : List ℕ) (operands : List Value) (null : TurnDecision) (tell tell_after : Bool → TurnDecision) → AreValues thread stays operands → ((b : Bool) → readiness (tell b) ≡ Some true) → ((b : Bool) → readiness (tell_after b) ≡ Some true) → Same thread stays (with_class_of program limits s thread name operands null tell) (with_class_of program limits after thread name operands null tell_after)
  with_class_same name (value.Null ∷ others) null tell tell_after are on on_after = same_on thread stays refl
  with_class_same name (value.Reference r ∷ others) null tell tell_after are on on_after =
      let f = found_for thread stays r are.0 in
      rw f.was_is (rw f.now_is (same_on thread stays
      (on_either (class_exists program name) (tell_after (fits program (class_of f.now) name)) (throws limits after thread thrown.NoClassDefFoundError) (on_after (fits program (class_of f.now) name)) (throws_on limits after thread thrown.NoClassDefFoundError)
      ∙ sym (on_either (class_exists program name) (tell (fits program (class_of f.was) name)) (throws limits s thread thrown.NoClassDefFoundError) (on (fits program (class_of f.was) name)) (throws_on limits s thread thrown.NoClassDefFoundError)))))
  with_class_same name _ null tell tell_after are on on_after = same_on thread stays refl

  pub class_same : (frame : MethodFrame) (how : ClassUse) (name : List ℕ) → AreValues thread stays frame.activation.operands → Same thread stays (class_decision program limits s u thread frame how name) (class_decision program limits after u thread frame how name)
  unfolding class_decision
  class_same frame class_use.New name are = if_deep_same thread stays frame 0 1 _ _ (new_same name (class_named program name))
  class_same frame class_use.NewArray name are = new_class_array_same frame name
  class_same frame class_use.CheckCast name are =
      if_deep_same thread stays frame 1 1 _ _ (with_class_same name frame.activation.operands _ (cast limits s thread frame) (cast limits after thread frame) are (cast_on s frame) (cast_on after frame))
  class_same frame class_use.InstanceOf name are =
      if_deep_same thread stays frame 1 1 _ _ (with_class_same name frame.activation.operands _ instance_test_result instance_test_result are instance_of_on instance_of_on)

  held_on : (st : State) (o : Option ℕ) (what : NewObject (List ℕ)) → readiness (existing_or_new limits st thread o what) ≡ Some true
  held_on st (Some r) what = refl
  held_on st None what = made_on st 0 what

  pub loadable_same : (frame : MethodFrame) (c : Loadable) → Same thread stays (loadable_decision program limits s thread frame c) (loadable_decision program limits after thread frame c)
  unfolding loadable_decision
  loadable_same frame (loadable.String units) =
      if_deep_same thread stays frame 0 1 _ _ (same_on thread stays (held_on after (text_reference after.heap units) (new_object.Text units) ∙ sym (held_on s (text_reference s.heap units) (new_object.Text units))))
  loadable_same frame (loadable.Class name) =
      if_deep_same thread stays frame 0 1 _ _ (same_either thread stays (class_exists program name) _ _ _ _
      (same_on thread stays (held_on after (class_reference after.heap name) (new_object.ClassObject name) ∙ sym (held_on s (class_reference s.heap name) (new_object.ClassObject name))))
      (thrown_same thread stays thrown.NoClassDefFoundError))
  loadable_same frame _ = same_on thread stays refl

  -- ---- First calls and initialisations

  first_same : (receiver : Option ℕ) (count : ℕ) (n : MethodNumber) (m : Method) → Same thread stays (first_call program limits s u thread receiver count n m) (first_call program limits after u thread receiver count n m)
  first_same receiver count n m =
      called_same thread stays n m receiver count _ _ (λ body locked. decision.Applies (action.Enters n body locked)) (thrown_same thread stays thrown.UnsatisfiedLinkError) (λ body locked. refl)

  entry_same : (start : Start) (o : Option Method) → Same thread stays (entry_decision program limits start s u thread o) (entry_decision program limits start after u thread o)
  entry_same start None = same_on thread stays refl
  entry_same start (Some m) =
      same_either thread stays (is_outside_method m.method_type) _ _ _ _ (same_on thread stays refl)
      (class_use_same thread stays start.method.class _ _ (first_same None (length start.arguments) start.method m))

  selected_run_same : (r : ℕ) (o : Option ResolvedMethod) → Same thread stays (selected_run program limits s u thread r o) (selected_run program limits after u thread r o)
  selected_run_same r None = thrown_same thread stays thrown.AbstractMethodError
  selected_run_same r (Some found) =
      numbered_same thread stays (method_number program found) (first_call program limits s u thread (Some r) 1) (first_call program limits after u thread (Some r) 1) (first_same (Some r) 1)

  run_same : (o : Option ℕ) → IfSome o (IsReference s.heap) → Same thread stays (run_decision program limits s u thread o) (run_decision program limits after u thread o)
  run_same None is = same_on thread stays refl
  run_same (Some r) is =
      let f = found_for thread stays r is in
      rw f.was_is (rw f.now_is
      (related_after thread stays (ap (λ (c : List ℕ). readiness (selected_run program limits after u thread r (run_of_class program c))) (class_kept f.was f.now f.pair.becomes))
      (selected_run_same r (run_of_class program (class_of f.was)))))

  pub first_call_same : (start : Start) → IfSome thread.object (IsReference s.heap) → Same thread stays (first_call_decision program limits start s u thread) (first_call_decision program limits start after u thread)
  first_call_same start is = same_either thread stays (u == 0) _ _ _ _ (entry_same start (method_at program start.method)) (run_same thread.object is)

  initializer_call_same : (n : MethodNumber) (o : Option Body) → Same thread stays (initializer_call limits s thread n o) (initializer_call limits after thread n o)
  initializer_call_same n None = same_on thread stays refl
  initializer_call_same n (Some body) = same_either thread stays (nat_le limits.frames (length thread.frames)) _ _ _ _ (thrown_same thread stays thrown.StackOverflowError) (same_on thread stays refl)

  initializer_same : (c : Class) (class : ℕ) (o : Option ℕ) → Same thread stays (initializer_decision limits s thread c class o) (initializer_decision limits after thread c class o)
  initializer_same c class None = same_on thread stays refl
  initializer_same c class (Some n) = initializer_call_same _ _

  superclass_same : (o : Option ℕ) (continued next : TurnDecision) → Same thread stays continued next → Same thread stays (superclass_decision program limits s u thread o continued) (superclass_decision program limits after u thread o next)
  superclass_same None continued next same = same
  superclass_same (Some super) continued next same = class_use_same thread stays super continued next same

  pub initialisation_same : (class : ℕ) (called : Bool) (o : Option Class) → Same thread stays (initialisation_decision program limits s u thread class called o) (initialisation_decision program limits after u thread class called o)
  initialisation_same class called None = same_on thread stays refl
  initialisation_same class true (Some c) = same_on thread stays refl
  initialisation_same class false (Some c) = superclass_same (asked_superclass program c) _ _ (initializer_same c class (initializer_of c))
