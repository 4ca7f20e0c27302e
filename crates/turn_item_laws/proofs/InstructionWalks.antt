-- A property of each possible result of an instruction beyond its frame is one of its decision, if it accesses no
-- variable and calls nothing. The same applies to first calls, initialisations, returns and pending exceptions.
use Rattle.std.proofs.Common.{Bool, List, None, Option, Some, [], codes, false, length, nat_le, not, refl, true, ℕ, ◌==◌, ◌∷◌, ◌≡◌}
use Rattle.std.proofs.lemmas.Bool.{cond_both}
use Rattle.std.specs.List.{list_all, list_any}
use Rattle.std.specs.Prelude.{int_lt, pos, unsigned_abs, ℤ}
use Rattle.jvms_file.specs.declared.descriptor.ResultType.{ResultType}
use Rattle.jvms_file.specs.declared.insn.ArrayType.{ArrayType}
use Rattle.jvms_file.specs.declared.insn.ClassUse.{ClassUse}
use Rattle.jvms_file.specs.declared.insn.ClassUse.TheVariants as class_use
use Rattle.jvms_file.specs.declared.insn.Kind.{Kind}
use Rattle.jvms_file.specs.declared.insn.ReturnInsn.{ReturnInsn}
use Rattle.jvms_file.specs.declared.insn.ReturnInsn.TheVariants as returns
use Rattle.jvms_program.specs.Program.{class_named, class_number, method_at}
use Rattle.jvms_program.specs.Resolution.{ResolvedMethod, class_exists, fits, method_number}
use Rattle.jvms_program.specs.declared.number.MethodNumber.{MethodNumber}
use Rattle.jvms_program.specs.declared.program.Body.{Body}
use Rattle.jvms_program.specs.declared.program.Class.{Class}
use Rattle.jvms_program.specs.declared.program.ExceptionHandler.{ExceptionHandler}
use Rattle.jvms_program.specs.declared.program.Loadable.{Loadable}
use Rattle.jvms_program.specs.declared.program.Loadable.TheVariants as loadable
use Rattle.jvms_program.specs.declared.program.Method.{Method}
use Rattle.jvms_program.specs.declared.thrown.Thrown.TheVariants as thrown
use Rattle.jvms_machine.specs.Actions.{effect_items}
use Rattle.jvms_machine.specs.Arrays.{array_length_decision, counted_lengths, if_deep, is_int, is_negative, length_decision, lengths_in, creation_decision, object_length_decision, new_array_decision, new_arrays_decision, new_arrays_room, new_class_array_decision}
use Rattle.jvms_machine.specs.Calls.{entry_decision, first_call, first_call_decision, run_decision, run_of_class, run_of_object, selected_run}
use Rattle.jvms_machine.specs.Decisions.{TurnDecision}
use Rattle.jvms_machine.specs.Exceptions.{has_room_for}
use Rattle.jvms_machine.specs.Fields.{reaches, next_action}
use Rattle.jvms_machine.specs.Heap.{array_of_class, array_of_type, arrays_made, elements_made, has_dimensions, has_room_for_elements}
use Rattle.jvms_machine.specs.Initialisation.{asked_superclass, initialisation_decision, initializer_call, initializer_decision, initializer_of, superclass_decision}
use Rattle.jvms_machine.specs.Locals.{is_profile_kind}
use Rattle.jvms_machine.specs.Locking.{enter_object, exit_object, monitor_enter_decision, monitor_exit_decision, on_top_object}
use Rattle.jvms_machine.specs.Monitors.{fails_to_unlock, is_empty, monitor_exit, frame_unlocking}
use Rattle.jvms_machine.specs.Objects.{cast, class_decision, existing_or_new, instance_of_number, is_instantiable, loadable_decision, creation_if_room, new_instance_decision, instance_test_result, with_class_of}
use Rattle.jvms_machine.specs.Places.{kind_size, top_value}
use Rattle.jvms_machine.specs.Profile.{is_outside_method}
use Rattle.jvms_machine.specs.Returns.{gives_kind, gives_nothing, method_return_decision, return_decision, return_top_decision, return_value_decision, returned_decision, returns_to}
use Rattle.jvms_machine.specs.Start.{Start}
use Rattle.jvms_machine.specs.State.{Frame, MethodFrame, Object, State, Thread, array, class_object, class_of, class_reference, instance, object_at, text, text_reference}
use Rattle.jvms_machine.specs.Unwinding.{failed_with, handler_decision, handler_of, object_decision, throw_decision, throw_top, throwable_decision, top_decision, unwinding_decision}
use Rattle.jvms_machine.specs.declared.action.Action.TheVariants as action
use Rattle.jvms_machine.specs.declared.action.Decision.TheVariants as decision
use Rattle.jvms_machine.specs.declared.action.Effect.{Effect}
use Rattle.jvms_machine.specs.declared.action.Effect.TheVariants as effect
use Rattle.jvms_machine.specs.declared.action.Exception.{Exception}
use Rattle.jvms_machine.specs.declared.action.FrameAction.{FrameAction}
use Rattle.jvms_machine.specs.declared.action.Lock.{Lock}
use Rattle.jvms_machine.specs.declared.action.MonitorUse.{MonitorUse}
use Rattle.jvms_machine.specs.declared.action.NewObject.{NewObject}
use Rattle.jvms_machine.specs.declared.action.NewObject.TheVariants as new_object
use Rattle.jvms_machine.specs.declared.machine.Limits.{Limits}
use Rattle.jvms_machine.specs.declared.machine.Outcome.{Outcome}
use Rattle.jvms_machine.specs.declared.state.StackFrame.TheVariants as stack_frame
use Rattle.jvms_machine.specs.declared.value.Value.{Value}
use Rattle.jvms_machine.specs.declared.value.Value.TheVariants as value
use Rattle.turn_item_laws.proofs.DecisionWalks.{IsOfTests, class_use_has, called_has, monitor_entry_has, if_deep_has, numbered_has, with_int_has, with_object_has}
use Rattle.turn_item_laws.proofs.SilentItems.{AreSilent, acquires_are_silent, none_is_silent, releases_are_silent}

-- A property of tests, of silent instructions that continue, and of `athrow`.
pub record IsOfActions (program : List Class) (limits : Limits) (s : State) (t : ℕ) (thread : Thread) (P : TurnDecision → Type 0) : Type 0 where
  pub of_tests : IsOfTests limits s thread P
  pub reached : (what : Effect (List ℕ)) (act : FrameAction) → AreSilent (effect_items program t what) → P (reaches what act)
  pub threw : (r : ℕ) → P (decision.Applies (action.Throws r))

-- A property of each way of popping the frame on top of these, and of a handler that takes an exception.
pub record IsOfPops (limits : Limits) (s : State) (frames : List Frame) (P : TurnDecision → Type 0) : Type 0 where
  pub unmade : (o : Outcome) → P (decision.Stays o)
  pub catches : (r target : ℕ) → P (decision.Applies (action.Catches r target))
  pub returned : (f : MethodFrame) (below : List Frame) (result : Option Value) (unlock : Option MonitorUse) → frames ≡ stack_frame.Call f ∷ below → P (returns_to f.method below result unlock)
  pub unwinds : (f : MethodFrame) (below : List Frame) (unlock : Option MonitorUse) → frames ≡ stack_frame.Call f ∷ below → P (decision.Applies (action.Unwinds f.method (is_empty below) unlock))
  pub fails : (f : MethodFrame) (below : List Frame) → frames ≡ stack_frame.Call f ∷ below → P (fails_to_unlock limits s f.method below)
  pub fails_initialisation : (class : ℕ) (called : Bool) (e : Exception) (below : List Frame) → frames ≡ stack_frame.Initialisation class called ∷ below → P (decision.Applies (action.FailsInitialisation class e (is_empty below)))

-- ---- Frames that are popped

module _ (program : List Class) (limits : Limits) (s : State) (t : ℕ) (frames : List Frame) (P : TurnDecision → Type 0) (pops : IsOfPops limits s frames P) where
  frame_unlocking_by : (r : ℕ) (o : Option MonitorUse) (fails : TurnDecision) (make : Option MonitorUse → TurnDecision) → o ≡ monitor_exit s t r → P fails → ((unlock : Option MonitorUse) → P (make unlock)) → P (frame_unlocking s t (Some r) fails make)
  frame_unlocking_by r None fails make e fail has = rw (← e) fail
  frame_unlocking_by r (Some monitor) fails make e fail has = rw (← e) (has (Some monitor))

  frame_unlocking_has : (o : Option ℕ) (fails : TurnDecision) (make : Option MonitorUse → TurnDecision) → P fails → ((unlock : Option MonitorUse) → P (make unlock)) → P (frame_unlocking s t o fails make)
  frame_unlocking_has None fails make fail has = has None
  frame_unlocking_has (Some r) fails make fail has = frame_unlocking_by r (monitor_exit s t r) fails make refl fail has

  module _ (f : MethodFrame) (below : List Frame) (is : frames ≡ stack_frame.Call f ∷ below) where
    returned_has : (result : Option Value) → P (returned_decision limits s t f below result)
    returned_has result =
        frame_unlocking_has f.monitor (fails_to_unlock limits s f.method below) (returns_to f.method below result) (pops.fails f below is) (λ unlock. pops.returned f below result unlock is)

    return_value_has : (type : ResultType) (k : Kind) (o : Option Value) → P (return_value_decision limits s t f below type k o)
    return_value_has type k None = pops.unmade _
    return_value_has type k (Some v) = cond_both (gives_kind type k) _ _ P (λ _. returned_has (Some v)) (λ _. pops.unmade _)

    return_top_has : (type : ResultType) (k : Kind) → P (return_top_decision limits s t f below type k)
    return_top_has type k =
        cond_both (nat_le (kind_size k) (length f.activation.operands)) _ _ P
        (λ _. return_value_has type k (top_value k f.activation.operands))
        (λ _. pops.unmade _)

    return_has : (type : ResultType) (how : ReturnInsn) → P (return_decision limits s t f below type how)
    return_has type returns.Void = cond_both (gives_nothing type) _ _ P (λ _. returned_has None) (λ _. pops.unmade _)
    return_has type (returns.Value k) = cond_both (is_profile_kind k) _ _ P (λ _. return_top_has type k) (λ _. pops.unmade _)

    pub method_return_has : (how : ReturnInsn) (o : Option Method) → P (method_return_decision limits s t f below how o)
    method_return_has how None = pops.unmade _
    method_return_has how (Some m) = return_has m.method_type.result how

    handler_has : (r : ℕ) (o : Option ExceptionHandler) → P (handler_decision limits s t f below r o)
    handler_has r None =
        frame_unlocking_has f.monitor (fails_to_unlock limits s f.method below) (λ unlock. decision.Applies (action.Unwinds f.method (is_empty below) unlock)) (pops.fails f below is) (λ unlock. pops.unwinds f below unlock is)
    handler_has r (Some h) = cond_both (f.body.max_stack == 0) _ _ P (λ _. pops.unmade _) (λ _. pops.catches r h.target)

  top_has : (fs : List Frame) (r : ℕ) (o : Object) → frames ≡ fs → P (top_decision program limits s t fs r o)
  top_has [] r o is = pops.unmade _
  top_has (stack_frame.Call f ∷ below) r o is = handler_has f below is r (handler_of program (class_of o) f)
  top_has (stack_frame.Initialisation class called ∷ below) r o is = pops.fails_initialisation class called (failed_with program limits s called r o) below is

  object_has : (r : ℕ) (o : Option Object) → P (object_decision program limits s t frames r o)
  object_has r None = pops.unmade _
  object_has r (Some o) = top_has frames r o refl

pub unwinding_has : (program : List Class) (limits : Limits) (s : State) (t : ℕ) (thread : Thread) (P : TurnDecision → Type 0) → IsOfPops limits s thread.frames P → (r : ℕ) → P (unwinding_decision program limits s t thread r)
unfolding unwinding_decision
unwinding_has program limits s t thread P pops r = object_has program limits s t thread.frames P pops r (object_at s.heap r)

-- ---- Instructions

module _ (program : List Class) (limits : Limits) (s : State) (t : ℕ) (thread : Thread) (P : TurnDecision → Type 0) (leaves : IsOfActions program limits s t thread P) where
  tests : IsOfTests limits s thread P
  tests = leaves.of_tests

  deep : (frame : MethodFrame) (takes gives : ℕ) (rest : TurnDecision) → P rest → P (if_deep frame takes gives rest)
  deep = if_deep_has program limits s t thread P tests

  nothing_has : (act : FrameAction) → P (reaches effect.Nothing act)
  nothing_has act = leaves.reached effect.Nothing act none_is_silent

  creation_has : (takes : ℕ) (what : NewObject (List ℕ)) → P (creation_decision s takes what)
  creation_has takes what = leaves.reached (effect.Creates what) _ none_is_silent

  throwable_has : (r : ℕ) (o : Object) → P (throwable_decision program r o)
  throwable_has r o = cond_both (fits program (class_of o) (codes "java/lang/Throwable")) _ _ P (λ _. leaves.threw r) (λ _. tests.unmade _)

  throw_top_has : (operands : List Value) → P (throw_top program limits s thread operands)
  throw_top_has [] = tests.unmade _
  throw_top_has (v ∷ others) = with_object_has program limits s t thread P tests v (throwable_decision program) (λ r o _. throwable_has r o)

  pub throw_has : (frame : MethodFrame) → P (throw_decision program limits s thread frame)
  unfolding throw_decision
  throw_has frame = deep frame 1 0 _ (throw_top_has frame.activation.operands)

  -- ---- Monitors

  on_top_has : (operands : List Value) (rest : ℕ → Object → TurnDecision) → ((r : ℕ) (o : Object) → P (rest r o)) → P (on_top_object limits s thread operands rest)
  on_top_has [] rest holds = tests.unmade _
  on_top_has (v ∷ others) rest holds = with_object_has program limits s t thread P tests v rest (λ r o _. holds r o)

  pub monitor_enter_has : (frame : MethodFrame) → P (monitor_enter_decision limits s t thread frame)
  unfolding monitor_enter_decision
  monitor_enter_has frame =
      deep frame 1 0 _ (on_top_has frame.activation.operands (enter_object limits s t thread frame)
      (λ r o. monitor_entry_has program limits s t thread P tests r _ (λ monitor. leaves.reached (effect.Locks monitor) _ (acquires_are_silent t monitor))))

  exit_by : (frame : MethodFrame) (r : ℕ) (o : Object) (how : Option MonitorUse) → how ≡ monitor_exit s t r → P (exit_object limits s t thread frame r o)
  exit_by frame r o None e = rw (← e) (tests.thrown_by thrown.IllegalMonitorStateException)
  exit_by frame r o (Some monitor) e = rw (← e) (leaves.reached (effect.Unlocks monitor) (next_action 1 frame.activation) (releases_are_silent t monitor))

  pub monitor_exit_has : (frame : MethodFrame) → P (monitor_exit_decision limits s t thread frame)
  unfolding monitor_exit_decision
  monitor_exit_has frame =
      deep frame 1 0 _ (on_top_has frame.activation.operands (exit_object limits s t thread frame) (λ r o. exit_by frame r o (monitor_exit s t r) refl))

  -- ---- New objects

  length_has : (class : List ℕ) (n : ℤ) → P (length_decision limits s thread class n)
  length_has class n =
      cond_both (int_lt n (pos 0)) _ _ P
      (λ _. tests.thrown_by thrown.NegativeArraySizeException)
      (λ _. cond_both (not (has_room_for_elements 1 (unsigned_abs n) limits s)) _ _ P
      (λ _. tests.thrown_by thrown.OutOfMemoryError)
      (λ _. creation_has 1 _))

  pub new_array_has : (frame : MethodFrame) (type : ArrayType) → P (new_array_decision limits s thread frame type)
  new_array_has frame type =
      deep frame 1 1 _ (with_int_has program limits s t thread P tests frame.activation.operands _ (length_has (array_of_type type)))

  new_class_array_has : (frame : MethodFrame) (name : List ℕ) → P (new_class_array_decision program limits s thread frame name)
  new_class_array_has frame name =
      deep frame 1 1 _ (with_int_has program limits s t thread P tests frame.activation.operands _
      (λ n. cond_both (not (class_exists program name)) _ _ P (λ _. tests.thrown_by thrown.NoClassDefFoundError) (λ _. length_has (array_of_class name) n)))

  new_arrays_room_has : (class : List ℕ) (dimensions : ℕ) (lengths : List ℕ) → P (new_arrays_room limits s thread class dimensions lengths)
  new_arrays_room_has class dimensions lengths =
      cond_both (not (has_dimensions class dimensions)) _ _ P
      (λ _. tests.unmade _)
      (λ _. cond_both (not (has_room_for_elements (arrays_made lengths) (elements_made lengths) limits s)) _ _ P
      (λ _. tests.thrown_by thrown.OutOfMemoryError)
      (λ _. creation_has dimensions _))

  pub new_arrays_has : (frame : MethodFrame) (class : List ℕ) (dimensions : ℕ) → P (new_arrays_decision program limits s thread frame class dimensions)
  unfolding new_arrays_decision
  new_arrays_has frame class dimensions =
      deep frame dimensions 1 _
      (cond_both (not (list_all is_int (lengths_in dimensions frame.activation.operands))) _ _ P
      (λ _. tests.unmade _)
      (λ _. cond_both (not (class_exists program class)) _ _ P
      (λ _. tests.thrown_by thrown.NoClassDefFoundError)
      (λ _. cond_both (list_any is_negative (lengths_in dimensions frame.activation.operands)) _ _ P
      (λ _. tests.thrown_by thrown.NegativeArraySizeException)
      (λ _. new_arrays_room_has class dimensions (counted_lengths dimensions frame.activation.operands)))))

  measured_has : (r : ℕ) (o : Object) → P (object_length_decision r o)
  measured_has r (array class elements) = nothing_has _
  measured_has r (instance class fields) = tests.unmade _
  measured_has r (text units) = tests.unmade _
  measured_has r (class_object name) = tests.unmade _

  pub array_length_has : (operands : List Value) → P (array_length_decision limits s thread operands)
  array_length_has [] = tests.unmade _
  array_length_has (v ∷ others) = with_object_has program limits s t thread P tests v object_length_decision (λ r o _. measured_has r o)

  pub length_of_array_has : (frame : MethodFrame) → P (if_deep frame 1 1 (array_length_decision limits s thread frame.activation.operands))
  length_of_array_has frame = deep frame 1 1 _ (array_length_has frame.activation.operands)

  made_has : (takes : ℕ) (what : NewObject (List ℕ)) → P (creation_if_room limits s thread takes what)
  made_has takes what = cond_both (has_room_for 1 limits s) _ _ P (λ _. creation_has takes what) (λ _. tests.thrown_by thrown.OutOfMemoryError)

  instance_has : (o : Option ℕ) → P (instance_of_number program limits s t thread o)
  instance_has None = tests.unmade _
  instance_has (Some class) = class_use_has program limits s t thread P tests class _ (made_has 0 (new_object.Instance class))

  new_has : (name : List ℕ) (o : Option Class) → P (new_instance_decision program limits s t thread name o)
  new_has name None = tests.thrown_by thrown.NoClassDefFoundError
  new_has name (Some c) =
      cond_both (not (is_instantiable c.kind)) _ _ P (λ _. tests.thrown_by thrown.InstantiationError) (λ _. instance_has (class_number program name))

  cast_has : (frame : MethodFrame) (b : Bool) → P (cast limits s thread frame b)
  cast_has frame true = nothing_has (next_action 0 frame.activation)
  cast_has frame false = tests.thrown_by thrown.ClassCastException

  told_has : (b : Bool) → P (instance_test_result b)
  told_has true = nothing_has _
  told_has false = nothing_has _

  class_of_by : (name : List ℕ) (r : ℕ) (others : List Value) (null : TurnDecision) (tell : Bool → TurnDecision) (o : Option Object) → o ≡ object_at s.heap r → ((b : Bool) → P (tell b)) → P (with_class_of program limits s thread name (value.Reference r ∷ others) null tell)
  class_of_by name r others null tell None e holds = rw (← e) (tests.unmade _)
  class_of_by name r others null tell (Some o) e holds =
      rw (← e) (cond_both (class_exists program name) _ _ P (λ _. holds (fits program (class_of o) name)) (λ _. tests.thrown_by thrown.NoClassDefFoundError))

  with_class_has : (name : List ℕ) (operands : List Value) (null : TurnDecision) (tell : Bool → TurnDecision) → P null → ((b : Bool) → P (tell b)) → P (with_class_of program limits s thread name operands null tell)
  with_class_has name (value.Null ∷ others) null tell of_null holds = of_null
  with_class_has name (value.Reference r ∷ others) null tell of_null holds = class_of_by name r others null tell (object_at s.heap r) refl holds
  with_class_has name _ null tell of_null holds = tests.unmade _

  pub class_has : (frame : MethodFrame) (how : ClassUse) (name : List ℕ) → P (class_decision program limits s t thread frame how name)
  unfolding class_decision
  class_has frame class_use.New name = deep frame 0 1 _ (new_has name (class_named program name))
  class_has frame class_use.NewArray name = new_class_array_has frame name
  class_has frame class_use.CheckCast name =
      deep frame 1 1 _ (with_class_has name frame.activation.operands _ _ (nothing_has (next_action 0 frame.activation)) (cast_has frame))
  class_has frame class_use.InstanceOf name = deep frame 1 1 _ (with_class_has name frame.activation.operands _ _ (told_has false) told_has)

  held_or_made_has : (o : Option ℕ) (what : NewObject (List ℕ)) → P (existing_or_new limits s thread o what)
  held_or_made_has (Some r) what = nothing_has _
  held_or_made_has None what = made_has 0 what

  pub loadable_has : (frame : MethodFrame) (c : Loadable) → P (loadable_decision program limits s thread frame c)
  unfolding loadable_decision
  loadable_has frame (loadable.String units) = deep frame 0 1 _ (held_or_made_has (text_reference s.heap units) (new_object.Text units))
  loadable_has frame (loadable.Class name) =
      deep frame 0 1 _ (cond_both (class_exists program name) _ _ P
      (λ _. held_or_made_has (class_reference s.heap name) (new_object.ClassObject name)) (λ _. tests.thrown_by thrown.NoClassDefFoundError))
  loadable_has frame _ = tests.unmade _

  -- ---- First calls and initialisations

  -- A first call that is applied has the property.
  module _ (enters : (n : MethodNumber) (body : Body) (locked : Lock) → P (decision.Applies (action.Enters n body locked))) where
    first_has : (receiver : Option ℕ) (count : ℕ) (n : MethodNumber) (m : Method) → P (first_call program limits s t thread receiver count n m)
    first_has receiver count n m =
        called_has program limits s t thread P tests n m receiver count _ (λ body locked. decision.Applies (action.Enters n body locked)) (λ _. tests.thrown_by thrown.UnsatisfiedLinkError) (enters n)

    entry_decision_has : (start : Start) (o : Option Method) → P (entry_decision program limits start s t thread o)
    entry_decision_has start None = tests.unmade _
    entry_decision_has start (Some m) =
        cond_both (is_outside_method m.method_type) _ _ P
        (λ _. tests.unmade _)
        (λ _. class_use_has program limits s t thread P tests start.method.class _ (first_has None (length start.arguments) start.method m))

    selected_run_has : (r : ℕ) (o : Option ResolvedMethod) → P (selected_run program limits s t thread r o)
    selected_run_has r None = tests.thrown_by thrown.AbstractMethodError
    selected_run_has r (Some found) =
        numbered_has program limits s t thread P tests (method_number program found) _ (λ n m _ _. first_has (Some r) 1 n m)

    run_of_object_has : (r : ℕ) (o : Option Object) → P (run_of_object program limits s t thread r o)
    run_of_object_has r None = tests.unmade _
    run_of_object_has r (Some o) = selected_run_has r (run_of_class program (class_of o))

    run_has : (o : Option ℕ) → P (run_decision program limits s t thread o)
    run_has None = tests.unmade _
    run_has (Some r) = run_of_object_has r (object_at s.heap r)

    pub first_call_has : (start : Start) → P (first_call_decision program limits start s t thread)
    first_call_has start =
        cond_both (t == 0) _ _ P (λ _. entry_decision_has start (method_at program start.method)) (λ _. run_has thread.object)

  -- An initialisation that calls its `<clinit>` or finishes has the property.
  module _ (initialises : (n : MethodNumber) (body : Body) → P (decision.Applies (action.Initialises n body))) (finishes : (class : ℕ) → P (decision.Applies (action.Finishes class))) where
    initializer_call_has : (n : MethodNumber) (o : Option Body) → P (initializer_call limits s thread n o)
    initializer_call_has n None = tests.unmade _
    initializer_call_has n (Some body) =
        cond_both (nat_le limits.frames (length thread.frames)) _ _ P (λ _. tests.thrown_by thrown.StackOverflowError) (λ _. initialises n body)

    initializer_has : (c : Class) (class : ℕ) (o : Option ℕ) → P (initializer_decision limits s thread c class o)
    initializer_has c class None = finishes class
    initializer_has c class (Some n) = initializer_call_has _ _

    superclass_has : (o : Option ℕ) (continued : TurnDecision) → P continued → P (superclass_decision program limits s t thread o continued)
    superclass_has None continued holds = holds
    superclass_has (Some super) continued holds = class_use_has program limits s t thread P tests super continued holds

    pub initialisation_has : (class : ℕ) (called : Bool) (o : Option Class) → P (initialisation_decision program limits s t thread class called o)
    initialisation_has class called None = tests.unmade _
    initialisation_has class true (Some c) = finishes class
    initialisation_has class false (Some c) = superclass_has (asked_superclass program c) _ (initializer_has c class (initializer_of c))
