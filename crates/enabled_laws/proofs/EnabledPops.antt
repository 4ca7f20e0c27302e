-- The enabledness of turns that pop a frame, throw, or enter and leave a monitor.
use Rattle.enabled_laws.proofs.EnabledTests.{AreValues, IsPair, Same, monitor_entry_same, fits_same, found_for, if_deep_same, same_either, same_on, related_after, with_object_same}
use Rattle.enabled_laws.proofs.Heaps.{class_kept}
use Rattle.enabled_laws.proofs.Related.{Stays, readiness, popped_on, throws_on}
use Rattle.jvms_file.specs.declared.descriptor.ResultType.{ResultType}
use Rattle.jvms_file.specs.declared.insn.Kind.{Kind}
use Rattle.jvms_file.specs.declared.insn.ReturnInsn.{ReturnInsn}
use Rattle.jvms_machine.specs.Decisions.{TurnDecision, bad}
use Rattle.jvms_machine.specs.Fields.{reaches, next_action}
use Rattle.jvms_machine.specs.Locals.{is_profile_kind}
use Rattle.jvms_machine.specs.Locking.{enter_object, exit_object, monitor_enter_decision, monitor_exit_decision, on_top_object}
use Rattle.jvms_machine.specs.Monitors.{fails_to_unlock, is_empty, monitor_exit, frame_unlocking}
use Rattle.jvms_machine.specs.Places.{kind_size, top_value}
use Rattle.jvms_machine.specs.Returns.{gives_kind, gives_nothing, method_return_decision, return_decision, return_top_decision, return_value_decision, returned_decision, returns_to}
use Rattle.jvms_machine.specs.State.{Frame, IsReference, MethodFrame, Object, State, Thread, class_of}
use Rattle.jvms_machine.specs.Unwinding.{handler_decision, handler_of, popped_decision, throw_decision, throw_top, throwable_decision, top_decision, unwinding_decision}
use Rattle.jvms_machine.specs.declared.action.MonitorUse.{MonitorUse}
use Rattle.jvms_machine.specs.declared.machine.Limits.{Limits}
use Rattle.jvms_machine.specs.declared.value.Value.{Value}
use Rattle.jvms_program.specs.declared.number.MethodNumber.{MethodNumber}
use Rattle.jvms_program.specs.declared.program.Class.{Class}
use Rattle.jvms_program.specs.declared.program.ExceptionHandler.{ExceptionHandler}
use Rattle.jvms_program.specs.declared.program.Method.{Method}
use Rattle.std.proofs.Common.{Bool, List, None, Option, Some, [], ap, codes, cond, length, nat_le, refl, sym, true, ℕ, ◌∙◌, ◌∷◌, ◌≡◌}
use Rattle.jvms_machine.specs.declared.action.Action.TheVariants as action
use Rattle.jvms_machine.specs.declared.machine.BadCause.TheVariants as cause
use Rattle.jvms_machine.specs.declared.action.Decision.TheVariants as decision
use Rattle.jvms_machine.specs.declared.action.Effect.TheVariants as effect
use Rattle.jvms_file.specs.declared.insn.ReturnInsn.TheVariants as returns
use Rattle.jvms_machine.specs.declared.state.StackFrame.TheVariants as stack_frame
use Rattle.jvms_program.specs.declared.thrown.Thrown.TheVariants as thrown

module _ {Rel : Bool → Bool → Type 0} {program : List Class} {limits : Limits} {s after : State} {u : ℕ} (thread : Thread) (stays : Stays Rel program limits s after u) where
  -- ---- Frames that are popped

  frame_unlocking_by : (st : State) (r : ℕ) (o : Option MonitorUse) (fails : TurnDecision) (make : Option MonitorUse → TurnDecision) → o ≡ monitor_exit st u r → readiness fails ≡ Some true → ((unlock : Option MonitorUse) → readiness (make unlock) ≡ Some true) → readiness (frame_unlocking st u (Some r) fails make) ≡ Some true
  frame_unlocking_by st r None fails make e failing on = rw (← e) failing
  frame_unlocking_by st r (Some monitor) fails make e failing on = rw (← e) (on (Some monitor))

  frame_unlocking_on : (st : State) (o : Option ℕ) (fails : TurnDecision) (make : Option MonitorUse → TurnDecision) → readiness fails ≡ Some true → ((unlock : Option MonitorUse) → readiness (make unlock) ≡ Some true) → readiness (frame_unlocking st u o fails make) ≡ Some true
  frame_unlocking_on st None fails make failing on = on None
  frame_unlocking_on st (Some r) fails make failing on = frame_unlocking_by st r (monitor_exit st u r) fails make refl failing on

  returns_on : (n : MethodNumber) (below : List Frame) (result : Option Value) (unlock : Option MonitorUse) → readiness (returns_to n below result unlock) ≡ Some true
  returns_on n [] result unlock = refl
  returns_on n (f ∷ below) result unlock = refl

  returned_on : (st : State) (f : MethodFrame) (below : List Frame) (result : Option Value) → readiness (returned_decision limits st u f below result) ≡ Some true
  returned_on st f below result =
      frame_unlocking_on st f.monitor (fails_to_unlock limits st f.method below) (returns_to f.method below result) (popped_on (is_empty below)) (returns_on f.method below result)

  returned_same : (f : MethodFrame) (below : List Frame) (result : Option Value) → Same thread stays (returned_decision limits s u f below result) (returned_decision limits after u f below result)
  returned_same f below result = same_on thread stays (returned_on after f below result ∙ sym (returned_on s f below result))

  return_value_same : (f : MethodFrame) (below : List Frame) (type : ResultType) (k : Kind) (o : Option Value) → Same thread stays (return_value_decision limits s u f below type k o) (return_value_decision limits after u f below type k o)
  return_value_same f below type k None = same_on thread stays refl
  return_value_same f below type k (Some v) = same_either thread stays (gives_kind type k) _ _ _ _ (returned_same f below (Some v)) (same_on thread stays refl)

  return_top_same : (f : MethodFrame) (below : List Frame) (type : ResultType) (k : Kind) → Same thread stays (return_top_decision limits s u f below type k) (return_top_decision limits after u f below type k)
  return_top_same f below type k =
      same_either thread stays (nat_le (kind_size k) (length f.activation.operands)) _ _ _ _ (return_value_same f below type k (top_value k f.activation.operands)) (same_on thread stays refl)

  return_same : (f : MethodFrame) (below : List Frame) (type : ResultType) (how : ReturnInsn) → Same thread stays (return_decision limits s u f below type how) (return_decision limits after u f below type how)
  return_same f below type returns.Void = same_either thread stays (gives_nothing type) _ _ _ _ (returned_same f below None) (same_on thread stays refl)
  return_same f below type (returns.Value k) = same_either thread stays (is_profile_kind k) _ _ _ _ (return_top_same f below type k) (same_on thread stays refl)

  pub method_return_same : (f : MethodFrame) (below : List Frame) (how : ReturnInsn) (o : Option Method) → Same thread stays (method_return_decision limits s u f below how o) (method_return_decision limits after u f below how o)
  method_return_same f below how None = same_on thread stays refl
  method_return_same f below how (Some m) = return_same f below m.method_type.result how

  popped_call_on : (st : State) (f : MethodFrame) (below : List Frame) → readiness (popped_decision limits st u f below) ≡ Some true
  popped_call_on st f below =
      frame_unlocking_on st f.monitor (fails_to_unlock limits st f.method below) (λ unlock. decision.Applies (action.Unwinds f.method (is_empty below) unlock)) (popped_on (is_empty below)) (λ unlock. popped_on (is_empty below))

  handler_same : (f : MethodFrame) (below : List Frame) (r : ℕ) (o : Option ExceptionHandler) → Same thread stays (handler_decision limits s u f below r o) (handler_decision limits after u f below r o)
  handler_same f below r None = same_on thread stays (popped_call_on after f below ∙ sym (popped_call_on s f below))
  handler_same f below r (Some h) = same_on thread stays refl

  top_same : (fs : List Frame) (r : ℕ) (was now : Object) → IsPair thread stays was now → Same thread stays (top_decision program limits s u fs r was) (top_decision program limits after u fs r now)
  top_same [] r was now pair = same_on thread stays refl
  top_same (stack_frame.Call f ∷ below) r was now pair =
      related_after thread stays (ap (λ (c : List ℕ). readiness (handler_decision limits after u f below r (handler_of program c f))) (class_kept was now pair.becomes))
      (handler_same f below r (handler_of program (class_of was) f))
  top_same (stack_frame.Initialisation class called ∷ below) r was now pair = same_on thread stays (popped_on (is_empty below) ∙ sym (popped_on (is_empty below)))

  pub unwinding_same : (r : ℕ) → IsReference s.heap r → Same thread stays (unwinding_decision program limits s u thread r) (unwinding_decision program limits after u thread r)
  unfolding unwinding_decision
  unwinding_same r is =
      let f = found_for thread stays r is in
      rw f.was_is (rw f.now_is (top_same thread.frames r f.was f.now f.pair))

  throwable_same : (r : ℕ) (was now : Object) → IsPair thread stays was now → Same thread stays (throwable_decision program r was) (throwable_decision program r now)
  throwable_same r was now pair =
      same_on thread stays (ap (λ (b : Bool). readiness (cond b (decision.Applies (action.Throws r)) (bad cause.Kind))) (fits_same thread stays was now (codes "java/lang/Throwable") pair))

  throw_top_same : (operands : List Value) → AreValues thread stays operands → Same thread stays (throw_top program limits s thread operands) (throw_top program limits after thread operands)
  throw_top_same [] are = same_on thread stays refl
  throw_top_same (v ∷ others) are = with_object_same thread stays v (throwable_decision program) (throwable_decision program) are.0 (λ r was now _ pair. throwable_same r was now pair)

  pub throw_same : (frame : MethodFrame) → AreValues thread stays frame.activation.operands → Same thread stays (throw_decision program limits s thread frame) (throw_decision program limits after thread frame)
  unfolding throw_decision
  throw_same frame are = if_deep_same thread stays frame 1 0 _ _ (throw_top_same frame.activation.operands are)

  -- ---- Monitors as instructions

  on_top_same : (operands : List Value) (rest rest_after : ℕ → Object → TurnDecision) → AreValues thread stays operands → ((r : ℕ) (was now : Object) → Same thread stays (rest r was) (rest_after r now)) → Same thread stays (on_top_object limits s thread operands rest) (on_top_object limits after thread operands rest_after)
  on_top_same [] rest rest_after are same = same_on thread stays refl
  on_top_same (v ∷ others) rest rest_after are same = with_object_same thread stays v rest rest_after are.0 (λ r was now _ _. same r was now)

  pub monitor_enter_same : (frame : MethodFrame) → AreValues thread stays frame.activation.operands → Same thread stays (monitor_enter_decision limits s u thread frame) (monitor_enter_decision limits after u thread frame)
  unfolding monitor_enter_decision
  monitor_enter_same frame are =
      if_deep_same thread stays frame 1 0 _ _ (on_top_same frame.activation.operands (enter_object limits s u thread frame) (enter_object limits after u thread frame) are
      (λ r was now. monitor_entry_same thread stays r (λ monitor. reaches (effect.Locks monitor) (next_action 1 frame.activation)) (λ monitor. refl)))

  exit_by : (st : State) (frame : MethodFrame) (r : ℕ) (o : Object) (how : Option MonitorUse) → how ≡ monitor_exit st u r → readiness (exit_object limits st u thread frame r o) ≡ Some true
  exit_by st frame r o None e = rw (← e) (throws_on limits st thread thrown.IllegalMonitorStateException)
  exit_by st frame r o (Some monitor) e = rw (← e) refl

  pub monitor_exit_same : (frame : MethodFrame) → AreValues thread stays frame.activation.operands → Same thread stays (monitor_exit_decision limits s u thread frame) (monitor_exit_decision limits after u thread frame)
  unfolding monitor_exit_decision
  monitor_exit_same frame are =
      if_deep_same thread stays frame 1 0 _ _ (on_top_same frame.activation.operands (exit_object limits s u thread frame) (exit_object limits after u thread frame) are
      (λ r was now. same_on thread stays (exit_by after frame r now (monitor_exit after u r) refl ∙ sym (exit_by s frame r was (monitor_exit s u r) refl))))
