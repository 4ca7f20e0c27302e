-- Properties of decisions on objects, arrays, monitors, first calls and initialisations.
use Rattle.enabled_laws.proofs.KnownEffects.{IsKnownDecision, IsKnownEffect, throws_known}
use Rattle.jvms_file.specs.declared.insn.ArrayInsn.{ArrayInsn}
use Rattle.jvms_file.specs.declared.insn.ArrayKind.{ArrayKind}
use Rattle.jvms_file.specs.declared.insn.ClassUse.{ClassUse}
use Rattle.jvms_machine.specs.Activations.{has_depth}
use Rattle.jvms_machine.specs.Arrays.{array_decision, array_length_decision, counted_lengths, element_at, element_size, fits_component, if_deep, is_int, is_negative, is_reference_kind, kind_of_elements, length_decision, lengths_in, load_from, load_operands, element_load_decision, object_length_decision, new_arrays_decision, new_arrays_room, new_class_array_decision, serves, store_below, store_operands, store_to, element_store_decision, with_object_of}
use Rattle.jvms_machine.specs.Calls.{entry_decision, first_call, first_call_decision, run_decision, run_of_class, run_of_object, selected_run}
use Rattle.jvms_machine.specs.Decisions.{TurnDecision}
use Rattle.jvms_machine.specs.Exceptions.{has_room_for, throws}
use Rattle.jvms_machine.specs.Fields.{read_decision}
use Rattle.jvms_machine.specs.Heap.{array_of_class, array_of_type, arrays_made, component_type, elements_made, has_dimensions, has_room_for_elements}
use Rattle.jvms_machine.specs.Initialisation.{asked_superclass, class_use_decision, initialisation_decision, initializer_call, initializer_decision, initializer_of, superclass_decision}
use Rattle.jvms_machine.specs.Locking.{enter_object, exit_object, monitor_enter_decision, monitor_exit_decision, on_top_object}
use Rattle.jvms_machine.specs.Monitors.{monitor_exit}
use Rattle.jvms_machine.specs.Objects.{cast, class_decision, existing_or_new, instance_of_number, is_instantiable, loadable_decision, creation_if_room, new_instance_decision, instance_test_result, with_class_of}
use Rattle.jvms_machine.specs.Places.{top_value, value_size}
use Rattle.jvms_machine.specs.Profile.{is_outside_method}
use Rattle.jvms_machine.specs.Start.{Start}
use Rattle.jvms_machine.specs.State.{Activation, MethodFrame, Object, State, Thread, array, class_object, class_of, class_reference, instance, object_at, text, text_reference}
use Rattle.jvms_machine.specs.Unwinding.{throw_decision, throw_top, throwable_decision}
use Rattle.jvms_machine.specs.declared.action.Effect.{Effect}
use Rattle.jvms_machine.specs.declared.action.MonitorUse.{MonitorUse}
use Rattle.jvms_machine.specs.declared.action.NewObject.{NewObject}
use Rattle.jvms_machine.specs.declared.machine.Limits.{Limits}
use Rattle.jvms_machine.specs.declared.value.Value.{Value}
use Rattle.jvms_program.specs.Program.{class_named, class_number, method_at}
use Rattle.jvms_program.specs.Resolution.{ResolvedMethod, class_exists, fits, method_number}
use Rattle.jvms_program.specs.declared.number.MethodNumber.{MethodNumber}
use Rattle.jvms_program.specs.declared.program.Body.{Body}
use Rattle.jvms_program.specs.declared.program.Class.{Class}
use Rattle.jvms_program.specs.declared.program.Loadable.{Loadable}
use Rattle.jvms_program.specs.declared.program.Method.{Method}
use Rattle.jvms_program.specs.declared.thrown.Thrown.{Thrown}
use Rattle.std.proofs.Common.{Bool, List, None, Option, Some, [], codes, drop, false, length, nat_le, not, pos, refl, true, ℕ, ℤ, ◌&&◌, ◌+◌, ◌==◌, ◌∷◌, ◌≡◌}
use Rattle.std.proofs.lemmas.Bool.{cond_both}
use Rattle.std.specs.List.{list_all, list_any}
use Rattle.std.specs.Prelude.{int_lt, unsigned_abs}
use Rattle.turn_item_laws.proofs.DecisionWalks.{IsOfTests, class_use_has, called_has, monitor_entry_has, if_deep_has, numbered_has, with_int_has, with_object_has}
use Rattle.jvms_machine.specs.declared.action.Action.TheVariants as action
use Rattle.jvms_file.specs.declared.insn.ArrayInsn.TheVariants as array_insn
use Rattle.jvms_file.specs.declared.insn.ClassUse.TheVariants as class_use
use Rattle.jvms_machine.specs.declared.action.Decision.TheVariants as decision
use Rattle.jvms_machine.specs.declared.action.Effect.TheVariants as effect
use Rattle.jvms_program.specs.declared.program.Loadable.TheVariants as loadable
use Rattle.jvms_machine.specs.declared.action.NewObject.TheVariants as new_object
use Rattle.jvms_program.specs.declared.thrown.Thrown.TheVariants as thrown
use Rattle.jvms_machine.specs.declared.value.Value.TheVariants as value

module _ (program : List Class) (limits : Limits) (s : State) (t : ℕ) (thread : Thread) where
  abbrev Known : TurnDecision → Type 0
  Known d = IsKnownDecision program s d

  throws_is : (class : Thrown) → Known (throws limits s thread class)
  throws_is class = throws_known program limits s s thread class

  tests : IsOfTests limits s thread Known
  tests = record { unmade = λ o. tt; thrown_by = throws_is; begun_by = λ class begins. tt }

  deep : (frame : MethodFrame) (takes gives : ℕ) (rest : TurnDecision) → Known rest → Known (if_deep frame takes gives rest)
  deep = if_deep_has program limits s t thread Known tests

  asked : (class : ℕ) (continued : TurnDecision) → Known continued → Known (class_use_decision program limits s t thread class continued)
  asked = class_use_has program limits s t thread Known tests

  of_object : (v : Value) (rest : ℕ → Object → TurnDecision) → ((r : ℕ) (o : Object) → Known (rest r o)) → Known (with_object_of limits s thread v rest)
  of_object v rest known = with_object_has program limits s t thread Known tests v rest (λ r o _. known r o)

  -- ---- athrow and monitors

  throw_top_known : (operands : List Value) → Known (throw_top program limits s thread operands)
  throw_top_known [] = tt
  throw_top_known (v ∷ others) =
      of_object v (throwable_decision program) (λ r o. cond_both (fits program (class_of o) (codes "java/lang/Throwable")) _ _ Known (λ _. tt) (λ _. tt))

  pub throw_known : (frame : MethodFrame) → Known (throw_decision program limits s thread frame)
  unfolding throw_decision
  throw_known frame = deep frame 1 0 _ (throw_top_known frame.activation.operands)

  on_top_known : (operands : List Value) (rest : ℕ → Object → TurnDecision) → ((r : ℕ) (o : Object) → Known (rest r o)) → Known (on_top_object limits s thread operands rest)
  on_top_known [] rest known = tt
  on_top_known (v ∷ others) rest known = of_object v rest known

  pub monitor_enter_known : (frame : MethodFrame) → Known (monitor_enter_decision limits s t thread frame)
  unfolding monitor_enter_decision
  monitor_enter_known frame =
      deep frame 1 0 _ (on_top_known frame.activation.operands (enter_object limits s t thread frame)
      (λ r o. monitor_entry_has program limits s t thread Known tests r _ (λ monitor. tt)))

  exit_by : (frame : MethodFrame) (r : ℕ) (o : Object) (how : Option MonitorUse) → how ≡ monitor_exit s t r → Known (exit_object limits s t thread frame r o)
  exit_by frame r o None e = rw (← e) (throws_is thrown.IllegalMonitorStateException)
  exit_by frame r o (Some monitor) e = rw (← e) tt

  pub monitor_exit_known : (frame : MethodFrame) → Known (monitor_exit_decision limits s t thread frame)
  unfolding monitor_exit_decision
  monitor_exit_known frame =
      deep frame 1 0 _ (on_top_known frame.activation.operands (exit_object limits s t thread frame) (λ r o. exit_by frame r o (monitor_exit s t r) refl))

  -- ---- New objects

  length_known : (class : List ℕ) (n : ℤ) → Known (length_decision limits s thread class n)
  length_known class n =
      cond_both (int_lt n (pos 0)) _ _ Known
      (λ _. throws_is thrown.NegativeArraySizeException)
      (λ _. cond_both (not (has_room_for_elements 1 (unsigned_abs n) limits s)) _ _ Known (λ _. throws_is thrown.OutOfMemoryError) (λ _. tt))

  new_class_array_known : (frame : MethodFrame) (name : List ℕ) → Known (new_class_array_decision program limits s thread frame name)
  new_class_array_known frame name =
      deep frame 1 1 _ (with_int_has program limits s t thread Known tests frame.activation.operands _
      (λ n. cond_both (not (class_exists program name)) _ _ Known (λ _. throws_is thrown.NoClassDefFoundError) (λ _. length_known (array_of_class name) n)))

  new_arrays_room_known : (class : List ℕ) (dimensions : ℕ) (lengths : List ℕ) → Known (new_arrays_room limits s thread class dimensions lengths)
  new_arrays_room_known class dimensions lengths =
      cond_both (not (has_dimensions class dimensions)) _ _ Known
      (λ _. tt)
      (λ _. cond_both (not (has_room_for_elements (arrays_made lengths) (elements_made lengths) limits s)) _ _ Known (λ _. throws_is thrown.OutOfMemoryError) (λ _. tt))

  pub new_arrays_known : (frame : MethodFrame) (class : List ℕ) (dimensions : ℕ) → Known (new_arrays_decision program limits s thread frame class dimensions)
  unfolding new_arrays_decision
  new_arrays_known frame class dimensions =
      deep frame dimensions 1 _
      (cond_both (not (list_all is_int (lengths_in dimensions frame.activation.operands))) _ _ Known
      (λ _. tt)
      (λ _. cond_both (not (class_exists program class)) _ _ Known
      (λ _. throws_is thrown.NoClassDefFoundError)
      (λ _. cond_both (list_any is_negative (lengths_in dimensions frame.activation.operands)) _ _ Known
      (λ _. throws_is thrown.NegativeArraySizeException)
      (λ _. new_arrays_room_known class dimensions (counted_lengths dimensions frame.activation.operands)))))

  room_known : (takes : ℕ) (what : NewObject (List ℕ)) → Known (creation_if_room limits s thread takes what)
  room_known takes what = cond_both (has_room_for 1 limits s) _ _ Known (λ _. tt) (λ _. throws_is thrown.OutOfMemoryError)

  instance_known : (o : Option ℕ) → Known (instance_of_number program limits s t thread o)
  instance_known None = tt
  instance_known (Some class) = asked class _ (room_known 0 (new_object.Instance class))

  new_known : (name : List ℕ) (o : Option Class) → Known (new_instance_decision program limits s t thread name o)
  new_known name None = throws_is thrown.NoClassDefFoundError
  new_known name (Some c) =
      cond_both (not (is_instantiable c.kind)) _ _ Known (λ _. throws_is thrown.InstantiationError) (λ _. instance_known (class_number program name))

  cast_known : (frame : MethodFrame) (b : Bool) → Known (cast limits s thread frame b)
  cast_known frame true = tt
  cast_known frame false = throws_is thrown.ClassCastException

  instance_of_known : (b : Bool) → Known (instance_test_result b)
  instance_of_known true = tt
  instance_of_known false = tt

  class_of_by : (name : List ℕ) (r : ℕ) (others : List Value) (null : TurnDecision) (tell : Bool → TurnDecision) (o : Option Object) → o ≡ object_at s.heap r → ((b : Bool) → Known (tell b)) → Known (with_class_of program limits s thread name (value.Reference r ∷ others) null tell)
  class_of_by name r others null tell None e known = rw (← e) tt
  class_of_by name r others null tell (Some o) e known =
      rw (← e) (cond_both (class_exists program name) _ _ Known (λ _. known (fits program (class_of o) name)) (λ _. throws_is thrown.NoClassDefFoundError))

  with_class_known : (name : List ℕ) (operands : List Value) (null : TurnDecision) (tell : Bool → TurnDecision) → Known null → ((b : Bool) → Known (tell b)) → Known (with_class_of program limits s thread name operands null tell)
  with_class_known name (value.Null ∷ others) null tell of_null known = of_null
  with_class_known name (value.Reference r ∷ others) null tell of_null known = class_of_by name r others null tell (object_at s.heap r) refl known
  with_class_known name _ null tell of_null known = tt

  pub class_known : (frame : MethodFrame) (how : ClassUse) (name : List ℕ) → Known (class_decision program limits s t thread frame how name)
  unfolding class_decision
  class_known frame class_use.New name = deep frame 0 1 _ (new_known name (class_named program name))
  class_known frame class_use.NewArray name = new_class_array_known frame name
  class_known frame class_use.CheckCast name = deep frame 1 1 _ (with_class_known name frame.activation.operands _ _ tt (cast_known frame))
  class_known frame class_use.InstanceOf name = deep frame 1 1 _ (with_class_known name frame.activation.operands _ _ tt instance_of_known)

  held_or_made_known : (o : Option ℕ) (what : NewObject (List ℕ)) → Known (existing_or_new limits s thread o what)
  held_or_made_known (Some r) what = tt
  held_or_made_known None what = room_known 0 what

  pub loadable_known : (frame : MethodFrame) (c : Loadable) → Known (loadable_decision program limits s thread frame c)
  unfolding loadable_decision
  loadable_known frame (loadable.String units) = deep frame 0 1 _ (held_or_made_known (text_reference s.heap units) (new_object.Text units))
  loadable_known frame (loadable.Class name) =
      deep frame 0 1 _ (cond_both (class_exists program name) _ _ Known
      (λ _. held_or_made_known (class_reference s.heap name) (new_object.ClassObject name)) (λ _. throws_is thrown.NoClassDefFoundError))
  loadable_known frame _ = tt

  -- ---- Elements of arrays

  measured_known : (r : ℕ) (o : Object) → Known (object_length_decision r o)
  measured_known r (array class elements) = tt
  measured_known r (instance class fields) = tt
  measured_known r (text units) = tt
  measured_known r (class_object name) = tt

  array_length_known : (operands : List Value) → Known (array_length_decision limits s thread operands)
  array_length_known [] = tt
  array_length_known (v ∷ others) = of_object v object_length_decision measured_known

  pub read_known : (frame : MethodFrame) (what : Effect (List ℕ)) (takes : ℕ) (o : Option Value) → IsKnownEffect program s what → Known (read_decision frame what takes o)
  read_known frame what takes None known = tt
  read_known frame what takes (Some v) known =
      cond_both (has_depth frame.body takes (value_size v) frame.activation) _ _ Known (λ _. known) (λ _. tt)

  loaded_known : (frame : MethodFrame) (r : ℕ) (n : ℤ) (o : Option Value) → Known (element_load_decision limits s thread frame r n o)
  loaded_known frame r n None = throws_is thrown.ArrayIndexOutOfBoundsException
  loaded_known frame r n (Some v) = read_known frame (effect.LoadElement r (unsigned_abs n)) 2 (Some v) tt

  load_known : (frame : MethodFrame) (k : ArrayKind) (n : ℤ) (r : ℕ) (o : Object) → Known (load_from limits s thread frame k n r o)
  load_known frame k n r (array class elements) =
      cond_both (serves k (component_type class)) _ _ Known (λ _. loaded_known frame r n (element_at elements n)) (λ _. tt)
  load_known frame k n r (instance class fields) = tt
  load_known frame k n r (text units) = tt
  load_known frame k n r (class_object name) = tt

  loads_known : (frame : MethodFrame) (k : ArrayKind) (operands : List Value) → Known (load_operands limits s thread frame k operands)
  loads_known frame k (value.Int n ∷ o ∷ others) = of_object o (load_from limits s thread frame k n) (load_known frame k n)
  loads_known frame k _ = tt

  stored_known : (a : Activation) (k : ArrayKind) (v : Value) (n : ℤ) (r : ℕ) (class : List ℕ) (o : Option Value) → Known (element_store_decision program limits s thread a k v n r class o)
  stored_known a k v n r class None = throws_is thrown.ArrayIndexOutOfBoundsException
  stored_known a k v n r class (Some old) =
      cond_both (is_reference_kind k && not (fits_component program s class v)) _ _ Known (λ _. throws_is thrown.ArrayStoreException) (λ _. tt)

  store_known : (a : Activation) (k : ArrayKind) (v : Value) (n : ℤ) (r : ℕ) (o : Object) → Known (store_to program limits s thread a k v n r o)
  store_known a k v n r (array class elements) =
      cond_both (serves k (component_type class)) _ _ Known (λ _. stored_known a k v n r class (element_at elements n)) (λ _. tt)
  store_known a k v n r (instance class fields) = tt
  store_known a k v n r (text units) = tt
  store_known a k v n r (class_object name) = tt

  store_below_known : (a : Activation) (k : ArrayKind) (v : Value) (operands : List Value) → Known (store_below program limits s thread a k v operands)
  store_below_known a k v (value.Int n ∷ o ∷ others) = of_object o (store_to program limits s thread a k v n) (store_known a k v n)
  store_below_known a k v _ = tt

  stores_known : (a : Activation) (k : ArrayKind) (o : Option Value) → Known (store_operands program limits s thread a k o)
  stores_known a k None = tt
  stores_known a k (Some v) = store_below_known a k v (drop (element_size k) a.operands)

  pub array_known : (frame : MethodFrame) (i : ArrayInsn) → Known (array_decision program limits s thread frame i)
  unfolding array_decision
  array_known frame (array_insn.New type) =
      deep frame 1 1 _ (with_int_has program limits s t thread Known tests frame.activation.operands _ (length_known (array_of_type type)))
  array_known frame array_insn.Length = deep frame 1 1 _ (array_length_known frame.activation.operands)
  array_known frame (array_insn.Load k) = deep frame 2 (element_size k) _ (loads_known frame k frame.activation.operands)
  array_known frame (array_insn.Store k) =
      deep frame (2 + element_size k) 0 _ (stores_known frame.activation k (top_value (kind_of_elements k) frame.activation.operands))

  -- ---- First calls and initialisations

  first_known : (receiver : Option ℕ) (count : ℕ) (n : MethodNumber) (m : Method) → Known (first_call program limits s t thread receiver count n m)
  first_known receiver count n m =
      called_has program limits s t thread Known tests n m receiver count _ (λ body locked. decision.Applies (action.Enters n body locked)) (λ _. throws_is thrown.UnsatisfiedLinkError) (λ body locked. tt)

  entry_known : (start : Start) (o : Option Method) → Known (entry_decision program limits start s t thread o)
  entry_known start None = tt
  entry_known start (Some m) =
      cond_both (is_outside_method m.method_type) _ _ Known
      (λ _. tt)
      (λ _. asked start.method.class _ (first_known None (length start.arguments) start.method m))

  selected_run_known : (r : ℕ) (o : Option ResolvedMethod) → Known (selected_run program limits s t thread r o)
  selected_run_known r None = throws_is thrown.AbstractMethodError
  selected_run_known r (Some found) = numbered_has program limits s t thread Known tests (method_number program found) _ (λ n m _ _. first_known (Some r) 1 n m)

  run_of_object_known : (r : ℕ) (o : Option Object) → Known (run_of_object program limits s t thread r o)
  run_of_object_known r None = tt
  run_of_object_known r (Some o) = selected_run_known r (run_of_class program (class_of o))

  run_known : (o : Option ℕ) → Known (run_decision program limits s t thread o)
  run_known None = tt
  run_known (Some r) = run_of_object_known r (object_at s.heap r)

  pub first_call_known : (start : Start) → Known (first_call_decision program limits start s t thread)
  first_call_known start =
      cond_both (t == 0) _ _ Known (λ _. entry_known start (method_at program start.method)) (λ _. run_known thread.object)

  initializer_call_known : (n : MethodNumber) (o : Option Body) → Known (initializer_call limits s thread n o)
  initializer_call_known n None = tt
  initializer_call_known n (Some body) =
      cond_both (nat_le limits.frames (length thread.frames)) _ _ Known (λ _. throws_is thrown.StackOverflowError) (λ _. tt)

  initializer_known : (c : Class) (class : ℕ) (o : Option ℕ) → Known (initializer_decision limits s thread c class o)
  initializer_known c class None = tt
  initializer_known c class (Some n) = initializer_call_known _ _

  superclass_known : (o : Option ℕ) (continued : TurnDecision) → Known continued → Known (superclass_decision program limits s t thread o continued)
  superclass_known None continued known = known
  superclass_known (Some super) continued known = asked super continued known

  pub initialisation_known : (class : ℕ) (called : Bool) (o : Option Class) → Known (initialisation_decision program limits s t thread class called o)
  initialisation_known class called None = tt
  initialisation_known class true (Some c) = tt
  initialisation_known class false (Some c) = superclass_known (asked_superclass program c) _ (initializer_known c class (initializer_of c))
