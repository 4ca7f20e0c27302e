-- Properties of decisions on fields and calls, and of each turn's.
use Rattle.enabled_laws.proofs.FieldTypes.{type_of_key}
use Rattle.enabled_laws.proofs.KnownEffects.{IsKnownDecision, returns_known, throws_known, written_size}
use Rattle.enabled_laws.proofs.KnownObjects.{array_known, class_known, first_call_known, initialisation_known, loadable_known, monitor_enter_known, monitor_exit_known, new_arrays_known, read_known, throw_known}
use Rattle.jvms_file.specs.Descriptors.{field_type, units_of}
use Rattle.jvms_file.specs.Names.{same_text}
use Rattle.jvms_file.specs.declared.descriptor.FieldType.{FieldType}
use Rattle.jvms_file.specs.declared.insn.FieldUse.{FieldUse}
use Rattle.jvms_file.specs.declared.insn.Invoke.{Invoke}
use Rattle.jvms_machine.proofs.ListLaws.{all_at}
use Rattle.jvms_machine.proofs.PlaceLaws.{IsWhole, top_is_whole}
use Rattle.jvms_machine.specs.Activations.{has_depth}
use Rattle.jvms_machine.specs.Calls.{are_of_call, call_decision, invoke_decision, object_call_decision, receiver_call_decision, receiver_of, resolved_call_decision, selected_method, selected_decision, static_call_decision, slots_of_call, wrong_receiver}
use Rattle.jvms_machine.specs.Decisions.{TurnDecision}
use Rattle.jvms_machine.specs.Exceptions.{throws}
use Rattle.jvms_machine.specs.Fields.{are_of_field, field_decision, field_gives, field_takes, fields_of, found_field_decision, instance_decision, numbered_field_decision, object_decision, object_of_use, receiver_decision, resolved_field_decision, static_decision, write_decision}
use Rattle.jvms_machine.specs.Heap.{value_of}
use Rattle.jvms_machine.specs.Initialisation.{class_use_decision}
use Rattle.jvms_machine.specs.Natives.{native_of_class, object_printed, print_decision, value_printed}
use Rattle.jvms_machine.specs.Places.{kind_of_type, top_value, whole_top}
use Rattle.jvms_machine.specs.Start.{Start}
use Rattle.jvms_machine.specs.State.{Activation, Frame, IsFrame, IsThread, MethodFrame, Object, Sound, State, Thread, array, class_object, class_of, instance, monitor_at, object_at, result_length, status_by, text}
use Rattle.jvms_machine.specs.Steps.{frame_decision, instruction_at}
use Rattle.jvms_machine.specs.Threads.{join_decision, start_decision, thread_native_decision, thread_of}
use Rattle.jvms_machine.specs.Turn.{decide, frame_turn_decision, frames_decision, started_decision, instruction_decision, reaching_decision, thread_decision}
use Rattle.jvms_machine.specs.Waiting.{is_waiter, object_native_decision, owner_decision, retake_decision, waiting_decision, waits_or_notifies}
use Rattle.jvms_machine.specs.declared.action.FrameDecision.{FrameDecision}
use Rattle.jvms_machine.specs.declared.machine.Limits.{Limits}
use Rattle.jvms_machine.specs.declared.state.Hold.{Hold}
use Rattle.jvms_machine.specs.declared.state.Wait.{Wait}
use Rattle.jvms_machine.specs.declared.value.Value.{Value}
use Rattle.jvms_program.specs.Program.{IsProgram, field_key_at, method_at}
use Rattle.jvms_program.specs.Resolution.{ResolvedField, ResolvedMethod, field_number, fits, is_static_call, is_static_use, method_number, resolved_field, resolved_method}
use Rattle.jvms_program.specs.declared.key.FieldKey.{FieldKey}
use Rattle.jvms_program.specs.declared.number.FieldNumber.{FieldNumber}
use Rattle.jvms_program.specs.declared.number.MethodNumber.{MethodNumber}
use Rattle.jvms_program.specs.declared.program.Class.{Class}
use Rattle.jvms_program.specs.declared.program.FieldReference.{FieldReference}
use Rattle.jvms_program.specs.declared.program.Instruction.{Instruction}
use Rattle.jvms_program.specs.declared.program.Method.{Method}
use Rattle.jvms_program.specs.declared.program.MethodReference.{MethodReference}
use Rattle.jvms_program.specs.declared.thrown.Thrown.{Thrown}
use Rattle.std.proofs.Common.{Bool, List, None, Option, Some, [], ap, codes, false, is_none, length, nat_lt, not, refl, slice_get, true, ℕ, ◌&&◌, ◌+◌, ◌==◌, ◌∷◌, ◌≡◌}
use Rattle.std.proofs.lemmas.Bool.{cond_both}
use Rattle.std.specs.List.{AllByRecursion}
use Rattle.std.specs.Prelude.{Err, Ok, Result}
use Rattle.turn_item_laws.proofs.DecisionWalks.{IsOfTests, class_use_has, called_has, numbered_has}
use Rattle.turn_item_laws.proofs.InstructionWalks.{IsOfPops, method_return_has, unwinding_has}
use Rattle.jvms_machine.specs.declared.action.Action.TheVariants as action
use Rattle.jvms_machine.specs.declared.action.Decision.TheVariants as decision
use Rattle.jvms_machine.specs.declared.action.Effect.TheVariants as effect
use Rattle.jvms_file.specs.declared.insn.FieldUse.TheVariants as field_use
use Rattle.jvms_machine.specs.declared.action.FrameDecision.TheVariants as frame_decided
use Rattle.jvms_program.specs.declared.program.Instruction.TheVariants as instruction
use Rattle.jvms_file.specs.declared.insn.Invoke.TheVariants as invoke
use Rattle.jvms_file.specs.declared.insn.ObjectInsn.TheVariants as object_insn
use Rattle.jvms_file.specs.declared.insn.Simple.TheVariants as simple
use Rattle.jvms_machine.specs.declared.state.StackFrame.TheVariants as stack_frame
use Rattle.jvms_program.specs.declared.thrown.Thrown.TheVariants as thrown
use Rattle.jvms_machine.specs.declared.value.Value.TheVariants as value

module _ (program : List Class) (limits : Limits) (s : State) (t : ℕ) (thread : Thread) where
  abbrev Known : TurnDecision → Type 0
  Known d = IsKnownDecision program s d

  throws_is : (class : Thrown) → Known (throws limits s thread class)
  throws_is class = throws_known program limits s s thread class

  tests : IsOfTests limits s thread Known
  tests = record { unmade = λ o. tt; thrown_by = throws_is; begun_by = λ class begins. tt }

  asked : (class : ℕ) (continued : TurnDecision) → Known continued → Known (class_use_decision program limits s t thread class continued)
  asked = class_use_has program limits s t thread Known tests

  -- ---- Fields

  -- A type is that of the field of a number.
  abbrev IsTypeOf : FieldType → FieldNumber → Type 0
  IsTypeOf type n = (key : FieldKey) → field_key_at program n ≡ Some key → type ≡ field_type key.descriptor

  module _ (frame : MethodFrame) (whole : (type : FieldType) → IsWhole s.heap (kind_of_type type) (top_value (kind_of_type type) frame.activation.operands)) where
    put_static_known : (n : FieldNumber) (type : FieldType) (o : Option Value) → IsTypeOf type n → IsWhole s.heap (kind_of_type type) o → Known (write_decision frame (λ v. effect.PutStatic n v) (units_of type) type o)
    put_static_known n type None is whole_is = tt
    put_static_known n type (Some v) is whole_is = written_size type v (field_key_at program n) whole_is.1 is

    static_known : (how : FieldUse) (type : FieldType) (n : FieldNumber) (key : FieldKey) → IsTypeOf type n → Known (static_decision s frame how type n key)
    static_known field_use.GetStatic type n key is = read_known program limits s t thread frame (effect.GetStatic n) 0 (value_of key s.statics) tt
    static_known field_use.PutStatic type n key is = put_static_known n type (top_value (kind_of_type type) frame.activation.operands) is (whole type)
    static_known _ type n key is = tt

    put_field_known : (r : ℕ) (n : FieldNumber) (type : FieldType) (o : Option Value) → IsTypeOf type n → IsWhole s.heap (kind_of_type type) o → Known (write_decision frame (λ v. effect.PutField r n v) (1 + units_of type) type o)
    put_field_known r n type None is whole_is = tt
    put_field_known r n type (Some v) is whole_is = written_size type v (field_key_at program n) whole_is.1 is

    object_known : (how : FieldUse) (type : FieldType) (n : FieldNumber) (key : FieldKey) (r : ℕ) (o : Object) → IsTypeOf type n → Known (object_decision frame how type n key r o)
    object_known field_use.Get type n key r o is = read_known program limits s t thread frame (effect.GetField r n) 1 (value_of key (fields_of o)) tt
    object_known field_use.Put type n key r o is = put_field_known r n type (top_value (kind_of_type type) frame.activation.operands) is (whole type)
    object_known _ type n key r o is = tt

    receiver_known : (how : FieldUse) (type : FieldType) (n : FieldNumber) (key : FieldKey) (r : ℕ) (o : Option Object) → IsTypeOf type n → Known (receiver_decision program frame how type n key r o)
    receiver_known how type n key r None is = tt
    receiver_known how type n key r (Some o) is =
        cond_both (fits program (class_of o) key.class) _ _ Known (λ _. object_known how type n key r o is) (λ _. tt)

    instance_field_known : (how : FieldUse) (type : FieldType) (n : FieldNumber) (key : FieldKey) (v : Option Value) → IsTypeOf type n → Known (instance_decision program limits s thread frame how type n key v)
    instance_field_known how type n key (Some (value.Reference r)) is = receiver_known how type n key r (object_at s.heap r) is
    instance_field_known how type n key (Some value.Null) is = throws_is thrown.NullPointerException
    instance_field_known how type n key _ is = tt

    numbered_field_known : (how : FieldUse) (type : FieldType) (n : FieldNumber) (o : Option FieldKey) → IsTypeOf type n → Known (numbered_field_decision program limits s t thread frame how type n o)
    numbered_field_known how type n None is = tt
    numbered_field_known how type n (Some key) is =
        cond_both (is_static_use how) _ _ Known
        (λ _. asked n.class _ (static_known how type n key is))
        (λ _. instance_field_known how type n key (object_of_use how type frame.activation.operands) is)

    found_field_known : (how : FieldUse) (type : FieldType) (o : Option FieldNumber) → ((n : FieldNumber) → o ≡ Some n → IsTypeOf type n) → Known (found_field_decision program limits s t thread frame how type o)
    found_field_known how type None is = tt
    found_field_known how type (Some n) is = numbered_field_known how type n (field_key_at program n) (is n refl)

    resolved_field_known : (how : FieldUse) (type : FieldType) (o : Result ResolvedField Thrown) → ((f : ResolvedField) (n : FieldNumber) → o ≡ Ok f → field_number program f ≡ Some n → IsTypeOf type n) → Known (resolved_field_decision program limits s t thread frame how type o)
    resolved_field_known how type (Err class) is = throws_is class
    resolved_field_known how type (Ok f) is = found_field_known how type (field_number program f) (λ n number. is f n refl number)

  field_known : (frame : MethodFrame) (how : FieldUse) (r : FieldReference) → IsProgram program → IsFrame program s.heap (stack_frame.Call frame) → instruction_at frame ≡ Some (instruction.Field how r) → Known (field_decision program limits s t thread frame how r)
  unfolding field_decision
  field_known frame how r classes is at =
      cond_both (not (has_depth frame.body (field_takes how r.field_type) (field_gives how r.field_type) frame.activation)) _ _ Known
      (λ _. tt)
      (λ _. cond_both (not (are_of_field how r.field_type frame.activation.operands)) _ _ Known
      (λ _. tt)
      (λ _. resolved_field_known frame (λ type. top_is_whole s.heap (kind_of_type type) frame.activation.operands is.3) how r.field_type (resolved_field program (is_static_use how) r)
      (λ f n resolved number key key_is. type_of_key program s.heap frame how r (is_static_use how) f n key classes is at resolved number key_is)))

  -- ---- Calls

  object_printed_known : (a : Activation) (takes : ℕ) (ends_line : Bool) (r : ℕ) (o : Option Object) → Known (object_printed a takes ends_line r o)
  object_printed_known a takes ends_line r None = tt
  object_printed_known a takes ends_line r (Some (text units)) = tt
  object_printed_known a takes ends_line r (Some (instance class fields)) = tt
  object_printed_known a takes ends_line r (Some (array class elements)) = tt
  object_printed_known a takes ends_line r (Some (class_object name)) = tt

  value_printed_known : (a : Activation) (takes : ℕ) (ends_line : Bool) (o : Option Value) → Known (value_printed s a takes ends_line o)
  value_printed_known a takes ends_line (Some (value.Int n)) = tt
  value_printed_known a takes ends_line (Some (value.Long n)) = tt
  value_printed_known a takes ends_line (Some value.Null) = tt
  value_printed_known a takes ends_line (Some (value.Reference r)) = object_printed_known a takes ends_line r (object_at s.heap r)
  value_printed_known a takes ends_line _ = tt

  print_known : (a : Activation) (takes : ℕ) (m : Method) → Known (print_decision s a takes m)
  print_known a takes m =
      cond_both (same_text m.name (codes "println") && same_text m.descriptor (codes "()V")) _ _ Known
      (λ _. tt)
      (λ _. value_printed_known a takes (same_text m.name (codes "println")) (whole_top a.operands))

  start_known : (a : Activation) (r : ℕ) (o : Option ℕ) → Known (start_decision limits s thread a r o)
  start_known a r (Some u) = throws_is thrown.IllegalThreadStateException
  start_known a r None = cond_both (nat_lt (length s.threads) limits.threads) _ _ Known (λ _. tt) (λ _. throws_is thrown.OutOfMemoryError)

  joined_by : (a : Activation) (u : ℕ) (o : Option Thread) → o ≡ slice_get s.threads u → Known (join_decision s a (Some u))
  joined_by a u None e = rw (← e) tt
  joined_by a u (Some other) e = rw (← e) (cond_both other.ended _ _ Known (λ _. tt) (λ _. tt))

  join_known : (a : Activation) (o : Option ℕ) → Known (join_decision s a o)
  join_known a None = tt
  join_known a (Some u) = joined_by a u (slice_get s.threads u) refl

  thread_native_known : (a : Activation) (m : Method) (operands : List Value) → Known (thread_native_decision limits s thread a m operands)
  thread_native_known a m (value.Reference r ∷ others) =
      cond_both (same_text m.name (codes "start")) _ _ Known (λ _. start_known a r (thread_of s.threads r)) (λ _. join_known a (thread_of s.threads r))
  thread_native_known a m _ = tt

  -- The owner of a monitor notifies, so the monitor is held.
  owned_known : (a : Activation) (m : Method) (r : ℕ) (o : Option Hold) → monitor_at s.monitors r ≡ o → Known (owner_decision limits s t thread o (waits_or_notifies a m r))
  owned_known a m r None is = throws_is thrown.IllegalMonitorStateException
  owned_known a m r (Some h) is =
      cond_both (h.owner == t) _ _ Known
      (λ _. cond_both (same_text m.name (codes "wait")) _ _ Known (λ _. tt) (λ _. ap (λ (o : Option Hold). is_none o) is))
      (λ _. throws_is thrown.IllegalMonitorStateException)

  object_native_known : (a : Activation) (m : Method) (operands : List Value) → Known (object_native_decision limits s t thread a m operands)
  object_native_known a m (value.Reference r ∷ others) = owned_known a m r (monitor_at s.monitors r) refl
  object_native_known a m _ = tt

  native_known : (a : Activation) (takes : ℕ) (m : Method) (o : Option Class) → Known (native_of_class limits s t thread a takes m o)
  native_known a takes m None = tt
  native_known a takes m (Some c) =
      cond_both (same_text c.name (codes "java/io/PrintStream")) _ _ Known
      (λ _. print_known a takes m)
      (λ _. cond_both (same_text c.name (codes "java/lang/Thread")) _ _ Known
      (λ _. thread_native_known a m a.operands)
      (λ _. cond_both (same_text c.name (codes "java/lang/Object")) _ _ Known
      (λ _. object_native_known a m a.operands)
      (λ _. throws_is thrown.UnsatisfiedLinkError)))

  call_known : (a : Activation) (receiver : Option ℕ) (takes : ℕ) (n : MethodNumber) (m : Method) → Known (call_decision program limits s t thread a receiver takes n m)
  call_known a receiver takes n m =
      called_has program limits s t thread Known tests n m receiver takes _ (λ body locked. decision.Applies (action.Calls n body takes locked)) (λ _. native_known a takes m (slice_get program n.class)) (λ body locked. tt)

  static_call_known : (a : Activation) (takes : ℕ) (f : ResolvedMethod) → Known (static_call_decision program limits s t thread a takes f)
  static_call_known a takes f =
      numbered_has program limits s t thread Known tests (method_number program f) _ (λ n m _ _. asked n.class _ (call_known a None takes n m))

  selected_known : (a : Activation) (q takes : ℕ) (o : Option ResolvedMethod) → Known (selected_decision program limits s t thread a q takes o)
  selected_known a q takes None = throws_is thrown.AbstractMethodError
  selected_known a q takes (Some f) = numbered_has program limits s t thread Known tests (method_number program f) _ (λ n m _ _. call_known a (Some q) takes n m)

  wrong_receiver_known : (how : Invoke) → Known (wrong_receiver limits s thread how)
  wrong_receiver_known invoke.Interface = throws_is thrown.IncompatibleClassChangeError
  wrong_receiver_known _ = tt

  object_call_known : (frame : MethodFrame) (how : Invoke) (r : MethodReference) (f : ResolvedMethod) (q : ℕ) (o : Option Object) → Known (object_call_decision program limits s t thread frame how r f q o)
  object_call_known frame how r f q None = tt
  object_call_known frame how r f q (Some o) =
      cond_both (fits program (class_of o) f.class.name) _ _ Known
      (λ _. selected_known frame.activation q (slots_of_call how r.method_type) (selected_method program frame how r (class_of o) f))
      (λ _. wrong_receiver_known how)

  receiver_call_known : (frame : MethodFrame) (how : Invoke) (r : MethodReference) (f : ResolvedMethod) (o : Option Value) → Known (receiver_call_decision program limits s t thread frame how r f o)
  receiver_call_known frame how r f (Some (value.Reference q)) = object_call_known frame how r f q (object_at s.heap q)
  receiver_call_known frame how r f (Some value.Null) = throws_is thrown.NullPointerException
  receiver_call_known frame how r f _ = tt

  resolved_call_known : (frame : MethodFrame) (how : Invoke) (r : MethodReference) (o : Result ResolvedMethod Thrown) → Known (resolved_call_decision program limits s t thread frame how r o)
  resolved_call_known frame how r (Err class) = throws_is class
  resolved_call_known frame how r (Ok f) =
      cond_both (is_static_call how) _ _ Known
      (λ _. static_call_known frame.activation (slots_of_call how r.method_type) f)
      (λ _. receiver_call_known frame how r f (receiver_of r.method_type frame.activation.operands))

  invoke_known : (frame : MethodFrame) (how : Invoke) (r : MethodReference) → Known (invoke_decision program limits s t thread frame how r)
  unfolding invoke_decision
  invoke_known frame how r =
      cond_both (not (has_depth frame.body (slots_of_call how r.method_type) (result_length r.method_type.result) frame.activation)) _ _ Known
      (λ _. tt)
      (λ _. cond_both (not (are_of_call how r.method_type frame.activation.operands)) _ _ Known
      (λ _. tt)
      (λ _. resolved_call_known frame how r (resolved_method program (is_static_call how) r)))

  -- ---- Turns

  pops : IsOfPops limits s thread.frames Known
  pops =
      record {
        unmade = λ o. tt;
        catches = λ r target. tt;
        returned = λ f below result unlock is. returns_known program s f.method below result unlock;
        unwinds = λ f below unlock is. tt;
        fails = λ f below is. tt;
        fails_initialisation = λ class called e below is. tt;
      }

  module _ (classes : IsProgram program) where
    reaching_known : (frame : MethodFrame) (below : List Frame) (i : Instruction) → thread.frames ≡ stack_frame.Call frame ∷ below → IsFrame program s.heap (stack_frame.Call frame) → instruction_at frame ≡ Some i → Known (reaching_decision program limits s t thread frame below i)
    unfolding reaching_decision
    reaching_known frame below (instruction.Simple (simple.Return how)) frames_are is at =
        method_return_has program limits s t thread.frames Known pops frame below frames_are how (method_at program frame.method)
    reaching_known frame below (instruction.Invoke how r) frames_are is at = invoke_known frame how r
    reaching_known frame below (instruction.Simple (simple.Array i)) frames_are is at = array_known program limits s t thread frame i
    reaching_known frame below (instruction.Constant c) frames_are is at = loadable_known program limits s t thread frame c
    reaching_known frame below (instruction.Field how r) frames_are is at = field_known frame how r classes is at
    reaching_known frame below (instruction.Class how name) frames_are is at = class_known program limits s t thread frame how name
    reaching_known frame below (instruction.MultiNewArray dimensions name) frames_are is at = new_arrays_known program limits s t thread frame name dimensions
    reaching_known frame below (instruction.Simple (simple.Object object_insn.Throw)) frames_are is at = throw_known program limits s t thread frame
    reaching_known frame below (instruction.Simple (simple.Object object_insn.MonitorEnter)) frames_are is at = monitor_enter_known program limits s t thread frame
    reaching_known frame below (instruction.Simple (simple.Object object_insn.MonitorExit)) frames_are is at = monitor_exit_known program limits s t thread frame
    reaching_known frame below _ frames_are is at = tt

    instruction_known : (frame : MethodFrame) (below : List Frame) (i : Instruction) (d : FrameDecision) → thread.frames ≡ stack_frame.Call frame ∷ below → IsFrame program s.heap (stack_frame.Call frame) → instruction_at frame ≡ Some i → Known (instruction_decision program limits s t thread frame below i d)
    instruction_known frame below i (frame_decided.Does act) frames_are is at = tt
    instruction_known frame below i (frame_decided.Throws class) frames_are is at = throws_is class
    instruction_known frame below i (frame_decided.Stops why) frames_are is at = tt
    instruction_known frame below i frame_decided.Beyond frames_are is at = reaching_known frame below i frames_are is at

    frame_turn_known : (frame : MethodFrame) (below : List Frame) (o : Option Instruction) → thread.frames ≡ stack_frame.Call frame ∷ below → IsFrame program s.heap (stack_frame.Call frame) → instruction_at frame ≡ o → Known (frame_turn_decision program limits s t thread frame below o)
    frame_turn_known frame below None frames_are is at = tt
    frame_turn_known frame below (Some i) frames_are is at = instruction_known frame below i (frame_decision frame.body i frame.activation) frames_are is at

    stack_known : (start : Start) (frames : List Frame) → thread.frames ≡ frames → AllByRecursion (IsFrame program s.heap) frames → Known (frames_decision program limits start s t thread frames)
    stack_known start [] frames_are is = first_call_known program limits s t thread start
    stack_known start (stack_frame.Initialisation class called ∷ below) frames_are is = initialisation_known program limits s t thread class called (slice_get program class)
    stack_known start (stack_frame.Call frame ∷ below) frames_are is = frame_turn_known frame below (instruction_at frame) frames_are is.0 refl

    retake_known : (w : Wait) (o : Option Hold) → Known (retake_decision w o)
    retake_known w None = tt
    retake_known w (Some h) = tt

    waiting_known : (w : Wait) → Known (waiting_decision s t w)
    unfolding waiting_decision
    waiting_known w =
        cond_both (is_waiter t s.waiters) _ _ Known (λ _. tt) (λ _. retake_known w (monitor_at s.monitors w.reference))

    status_known : (start : Start) (ended : Bool) (pending : Option ℕ) (waits : Option Wait) → IsThread program limits s.heap thread → Known (started_decision program limits start s t thread (status_by ended pending waits))
    status_known start true pending waits is = tt
    status_known start false (Some r) waits is = unwinding_has program limits s t thread Known pops r
    status_known start false None (Some w) is = waiting_known w
    status_known start false None None is = stack_known start thread.frames refl is.0

thread_known : (program : List Class) (limits : Limits) (start : Start) (s : State) (t : ℕ) (o : Option Thread) → IsProgram program → Sound program limits s → slice_get s.threads t ≡ o → IsKnownDecision program s (thread_decision program limits start s t o)
thread_known program limits start s t None classes sound at = tt
thread_known program limits start s t (Some thread) classes sound at =
    status_known program limits s t thread classes start thread.ended thread.pending thread.waits (all_at (IsThread program limits s.heap) s.threads t thread at sound.threads)

pub decided_known : (program : List Class) (limits : Limits) (start : Start) (s : State) (t : ℕ) → IsProgram program → Sound program limits s → IsKnownDecision program s (decide program limits start s t)
unfolding decide
decided_known program limits start s t classes sound = thread_known program limits start s t (slice_get s.threads t) classes sound refl
