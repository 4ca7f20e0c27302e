-- The enabledness of a thread's turn in two states, where all that the turn depends on is related.
use Rattle.enabled_laws.proofs.EnabledAccesses.{array_same, field_same}
use Rattle.enabled_laws.proofs.EnabledCalls.{invoke_same}
use Rattle.enabled_laws.proofs.EnabledObjects.{class_same, first_call_same, initialisation_same, loadable_same, new_arrays_same}
use Rattle.enabled_laws.proofs.EnabledPops.{method_return_same, monitor_enter_same, monitor_exit_same, throw_same, unwinding_same}
use Rattle.enabled_laws.proofs.EnabledTests.{Same, same_on, thrown_same, related_both}
use Rattle.enabled_laws.proofs.Kept.{may_retake}
use Rattle.enabled_laws.proofs.Related.{IsFit, Related, Stays, readiness, readiness_of, related_enabled, related_fit}
use Rattle.jvms_machine.proofs.ListLaws.{all_at}
use Rattle.jvms_machine.specs.Decisions.{TurnDecision}
use Rattle.jvms_machine.specs.Start.{Start}
use Rattle.jvms_machine.specs.State.{Frame, IsFrame, IsReference, IsThread, IsThrowable, MethodFrame, State, Thread, is_wait_for, monitor_at, status_by, waits_for}
use Rattle.jvms_machine.specs.Status.{is_bad, is_enabled}
use Rattle.jvms_machine.specs.Steps.{frame_decision, instruction_at}
use Rattle.jvms_machine.specs.Turn.{decide, frame_turn_decision, frames_decision, started_decision, instruction_decision, reaching_decision, thread_decision, turn}
use Rattle.jvms_machine.specs.Waiting.{is_waiter, retake_decision, waiting_decision}
use Rattle.jvms_machine.specs.declared.action.FrameDecision.{FrameDecision}
use Rattle.jvms_machine.specs.declared.machine.Limits.{Limits}
use Rattle.jvms_machine.specs.declared.state.Hold.{Hold}
use Rattle.jvms_machine.specs.declared.state.Wait.{Wait}
use Rattle.jvms_program.specs.Program.{method_at}
use Rattle.jvms_program.specs.declared.program.Class.{Class}
use Rattle.jvms_program.specs.declared.program.Instruction.{Instruction}
use Rattle.std.proofs.Common.{Bool, IfSome, List, None, Option, Some, [], ap, cond, eq-eqb, false, is_none, not, refl, slice_get, subst, sym, true, ℕ, ◌&&◌, ◌∙◌, ◌∷◌, ◌≡◌}
use Rattle.std.specs.List.{AllByRecursion}
use Rattle.jvms_machine.specs.declared.machine.BlockedOn.TheVariants as blocked
use Rattle.jvms_machine.specs.declared.action.Decision.TheVariants as decision
use Rattle.jvms_machine.specs.declared.action.FrameDecision.TheVariants as frame_decided
use Rattle.jvms_program.specs.declared.program.Instruction.TheVariants as instruction
use Rattle.jvms_file.specs.declared.insn.ObjectInsn.TheVariants as object_insn
use Rattle.jvms_machine.specs.declared.machine.Outcome.TheVariants as outcome
use Rattle.jvms_file.specs.declared.insn.Simple.TheVariants as simple
use Rattle.jvms_machine.specs.declared.state.StackFrame.TheVariants as stack_frame

module _ {Rel : Bool → Bool → Type 0} {program : List Class} {limits : Limits} {s after : State} {u : ℕ} (thread : Thread) (stays : Stays Rel program limits s after u) where
  -- ---- Turns

  abbrev IsCall : MethodFrame → Type 0
  IsCall frame = IsFrame program s.heap (stack_frame.Call frame)

  reaching_same : (frame : MethodFrame) (below : List Frame) (i : Instruction) → IsCall frame → instruction_at frame ≡ Some i → Same thread stays (reaching_decision program limits s u thread frame below i) (reaching_decision program limits after u thread frame below i)
  unfolding reaching_decision
  reaching_same frame below (instruction.Simple (simple.Return how)) is at = method_return_same thread stays frame below how (method_at program frame.method)
  reaching_same frame below (instruction.Invoke how r) is at = invoke_same thread stays frame how r is.3
  reaching_same frame below (instruction.Simple (simple.Array i)) is at = array_same thread stays frame i is.3 is.1.1
  reaching_same frame below (instruction.Constant c) is at = loadable_same thread stays frame c
  reaching_same frame below (instruction.Field how r) is at = field_same thread stays frame how r is at
  reaching_same frame below (instruction.Class how name) is at = class_same thread stays frame how name is.3
  reaching_same frame below (instruction.MultiNewArray dimensions name) is at = new_arrays_same thread stays frame name dimensions
  reaching_same frame below (instruction.Simple (simple.Object object_insn.Throw)) is at = throw_same thread stays frame is.3
  reaching_same frame below (instruction.Simple (simple.Object object_insn.MonitorEnter)) is at = monitor_enter_same thread stays frame is.3
  reaching_same frame below (instruction.Simple (simple.Object object_insn.MonitorExit)) is at = monitor_exit_same thread stays frame is.3
  reaching_same frame below _ is at = same_on thread stays refl

  instruction_same : (frame : MethodFrame) (below : List Frame) (i : Instruction) (d : FrameDecision) → IsCall frame → instruction_at frame ≡ Some i → Same thread stays (instruction_decision program limits s u thread frame below i d) (instruction_decision program limits after u thread frame below i d)
  instruction_same frame below i (frame_decided.Does act) is at = same_on thread stays refl
  instruction_same frame below i (frame_decided.Throws class) is at = thrown_same thread stays class
  instruction_same frame below i (frame_decided.Stops why) is at = same_on thread stays refl
  instruction_same frame below i frame_decided.Beyond is at = reaching_same frame below i is at

  frame_turn_same : (frame : MethodFrame) (below : List Frame) (o : Option Instruction) → IsCall frame → instruction_at frame ≡ o → Same thread stays (frame_turn_decision program limits s u thread frame below o) (frame_turn_decision program limits after u thread frame below o)
  frame_turn_same frame below None is at = same_on thread stays refl
  frame_turn_same frame below (Some i) is at = instruction_same frame below i (frame_decision frame.body i frame.activation) is at

  stack_same : (start : Start) (frames : List Frame) → AllByRecursion (IsFrame program s.heap) frames → IfSome thread.object (IsReference s.heap) → Same thread stays (frames_decision program limits start s u thread frames) (frames_decision program limits start after u thread frames)
  stack_same start [] are object = first_call_same thread stays start object
  stack_same start (stack_frame.Initialisation class called ∷ below) are object = initialisation_same thread stays class called (slice_get program class)
  stack_same start (stack_frame.Call frame ∷ below) are object = frame_turn_same frame below (instruction_at frame) are.0 refl

  retake_is_on : (w : Wait) (b : Bool) (o : Option Hold) → readiness (cond b (decision.Stays (outcome.Blocked (blocked.Wait w.reference))) (retake_decision w o)) ≡ Some (not b && is_none o)
  retake_is_on w true o = refl
  retake_is_on w false None = refl
  retake_is_on w false (Some h) = refl

  waiting_is_on : (st : State) (w : Wait) → readiness (waiting_decision st u w) ≡ Some (may_retake u st.waiters (monitor_at st.monitors w.reference))
  unfolding waiting_decision
  waiting_is_on st w = retake_is_on w (is_waiter u st.waiters) (monitor_at st.monitors w.reference)

  waiting_same : (w : Wait) → waits_for w.reference (slice_get s.threads u) ≡ true → Same thread stays (waiting_decision s u w) (waiting_decision after u w)
  waiting_same w waits = related_both thread stays (waiting_is_on s w) (waiting_is_on after w) (stays.retakes w.reference waits)

  status_same : (start : Start) (ended : Bool) (pending : Option ℕ) (waits : Option Wait) → IsThread program limits s.heap thread → slice_get s.threads u ≡ Some thread → thread.pending ≡ pending → thread.waits ≡ waits → Same thread stays (started_decision program limits start s u thread (status_by ended pending waits)) (started_decision program limits start after u thread (status_by ended pending waits))
  status_same start true pending waits is at pending_is waits_are = same_on thread stays refl
  status_same start false (Some r) waits is at pending_is waits_are =
      let throwable : IfSome (Some r) (IsThrowable program s.heap) = subst (λ o. IfSome o (IsThrowable program s.heap)) pending_is is.3 in
      unwinding_same thread stays r throwable.1
  status_same start false None (Some w) is at pending_is waits_are =
      waiting_same w (ap (waits_for w.reference) at ∙ ap (is_wait_for w.reference) waits_are ∙ eq-eqb w.reference w.reference refl)
  status_same start false None None is at pending_is waits_are = stack_same start thread.frames is.0 is.4

module _ (Rel : Bool → Bool → Type 0) (program : List Class) (limits : Limits) (start : Start) (s after : State) (u : ℕ) (stays : Stays Rel program limits s after u) where
  abbrev IsRelated : TurnDecision → TurnDecision → Type 0
  IsRelated d e = Related Rel (readiness d) (readiness e)

  -- The thread is the same in both states.
  thread_same : (o : Option Thread) → slice_get s.threads u ≡ o → IsRelated (thread_decision program limits start s u o) (thread_decision program limits start after u o)
  thread_same None at = IsFit false false (stays.relation.same false false refl)
  thread_same (Some thread) at =
      status_same thread stays start thread.ended thread.pending thread.waits (all_at (IsThread program limits s.heap) s.threads u thread at stays.sound.threads) at refl refl

  decided_same : slice_get after.threads u ≡ slice_get s.threads u → IsRelated (decide program limits start s u) (decide program limits start after u)
  unfolding decide
  decided_same at =
      subst (λ (o : Option Thread). IsRelated (thread_decision program limits start s u (slice_get s.threads u)) (thread_decision program limits start after u o)) (sym at)
      (thread_same (slice_get s.threads u) refl)

  -- The outcome of a turn is that of its decision.
  outcomes_related : slice_get after.threads u ≡ slice_get s.threads u → Related Rel (readiness_of (turn program limits start s u).outcome) (readiness_of (turn program limits start after u).outcome)
  unfolding turn
  outcomes_related at = decided_same at

  pub outcomes_same : slice_get after.threads u ≡ slice_get s.threads u → is_bad (turn program limits start s u).outcome ≡ false → Rel (is_enabled (turn program limits start s u).outcome) (is_enabled (turn program limits start after u).outcome)
  outcomes_same at =
      let was = (turn program limits start s u).outcome in
      let now = (turn program limits start after u).outcome in
      related_enabled Rel (is_bad was) (is_bad now) (is_enabled was) (is_enabled now) (outcomes_related at)

  -- The second turn isn't Bad either, if the first isn't enabled or the relation doesn't allow everything after it.
  pub outcomes_fit : slice_get after.threads u ≡ slice_get s.threads u → (is_enabled (turn program limits start s u).outcome ≡ true → ((b : Bool) → Rel true b) → ⊥) → is_bad (turn program limits start s u).outcome ≡ false → is_bad (turn program limits start after u).outcome ≡ false
  outcomes_fit at =
      let was = (turn program limits start s u).outcome in
      let now = (turn program limits start after u).outcome in
      related_fit Rel (is_bad was) (is_bad now) (is_enabled was) (is_enabled now) (outcomes_related at)
