-- A property of each possible result of a turn is one of its decision. An instruction has the joins and accesses of its
-- call.
use Rattle.std.proofs.Common.{Bool, List, None, Option, Some, [], false, refl, slice_get, true, ℕ, ◌∷◌, ◌≡◌}
use Rattle.std.proofs.lemmas.Bool.{cond_both}
use Rattle.jvms_file.specs.declared.insn.ArrayInsn.{ArrayInsn}
use Rattle.jvms_file.specs.declared.insn.ArrayInsn.TheVariants as array_insn
use Rattle.jvms_file.specs.declared.insn.FieldUse.{FieldUse}
use Rattle.jvms_file.specs.declared.insn.Invoke.{Invoke}
use Rattle.jvms_file.specs.declared.insn.ObjectInsn.TheVariants as object_insn
use Rattle.jvms_file.specs.declared.insn.ReturnInsn.{ReturnInsn}
use Rattle.jvms_file.specs.declared.insn.Simple.{Simple}
use Rattle.jvms_file.specs.declared.insn.Simple.TheVariants as simple
use Rattle.jvms_program.specs.Program.{method_at}
use Rattle.jvms_program.specs.Resolution.{is_static_use, resolved_field}
use Rattle.jvms_program.specs.declared.number.MethodNumber.{MethodNumber}
use Rattle.jvms_program.specs.declared.program.Body.{Body}
use Rattle.jvms_program.specs.declared.program.Class.{Class}
use Rattle.jvms_program.specs.declared.program.FieldReference.{FieldReference}
use Rattle.jvms_program.specs.declared.program.Instruction.{Instruction}
use Rattle.jvms_program.specs.declared.program.Instruction.TheVariants as instruction
use Rattle.jvms_program.specs.declared.program.MethodReference.{MethodReference}
use Rattle.jvms_machine.specs.Arrays.{array_decision}
use Rattle.jvms_machine.specs.Decisions.{TurnDecision, never_seen}
use Rattle.jvms_machine.specs.Profile.{is_outside_array, is_outside_element, is_outside_method}
use Rattle.jvms_machine.specs.Start.{Start}
use Rattle.jvms_machine.specs.State.{Frame, MethodFrame, State, Thread, monitor_at, status_by}
use Rattle.jvms_machine.specs.Steps.{beyond_unless, frame_decision, instruction_at}
use Rattle.jvms_machine.specs.Turn.{frame_turn_decision, frames_decision, started_decision, instruction_decision, reaching_decision}
use Rattle.jvms_machine.specs.Waiting.{is_waiter, retake_decision, waiting_decision}
use Rattle.jvms_machine.specs.declared.action.Action.TheVariants as action
use Rattle.jvms_machine.specs.declared.action.Decision.TheVariants as decision
use Rattle.jvms_machine.specs.declared.action.FrameAction.{FrameAction}
use Rattle.jvms_machine.specs.declared.action.FrameDecision.{FrameDecision}
use Rattle.jvms_machine.specs.declared.action.FrameDecision.TheVariants as frame_decided
use Rattle.jvms_machine.specs.declared.action.Lock.{Lock}
use Rattle.jvms_machine.specs.declared.machine.BadCause.TheVariants as cause
use Rattle.jvms_machine.specs.declared.machine.BlockedOn.TheVariants as blocked
use Rattle.jvms_machine.specs.declared.machine.Limits.{Limits}
use Rattle.jvms_machine.specs.declared.machine.Outcome.TheVariants as outcome
use Rattle.jvms_machine.specs.declared.state.Hold.{Hold}
use Rattle.jvms_machine.specs.declared.state.StackFrame.TheVariants as stack_frame
use Rattle.jvms_machine.specs.declared.state.Wait.{Wait}
use Rattle.jvms_machine.specs.declared.trace.Item.{Item}
use Rattle.turn_item_laws.proofs.ArrayAccesses.{loading_has, storing_has}
use Rattle.turn_item_laws.proofs.CallLeaves.{IsOfCalls, IsOnTop}
use Rattle.turn_item_laws.proofs.DecisionWalks.{IsOfTests}
use Rattle.turn_item_laws.proofs.FieldAccesses.{field_has}
use Rattle.turn_item_laws.proofs.InstructionWalks.{IsOfActions, IsOfPops, class_has, first_call_has, initialisation_has, length_of_array_has, loadable_has, method_return_has, monitor_enter_has, monitor_exit_has, new_array_has, new_arrays_has, throw_has, unwinding_has}
use Rattle.turn_item_laws.proofs.JoinCalls.{invoke_has}
use Rattle.turn_item_laws.specs.Accesses.{access_of, access_of_call, array_access, resolved_access}
use Rattle.turn_item_laws.specs.Joins.{join_items, join_of, join_of_call, joined_for, receiver_reference}
use Rattle.turn_item_laws.specs.Progress.{call_by, call_on}

pub record IsOfTurns (program : List Class) (limits : Limits) (s : State) (t : ℕ) (thread : Thread) (P : List Item → List Item → TurnDecision → Type 0) : Type 0 where
  pub calls : (frame : MethodFrame) (below : List Frame) (joins accesses : List Item) → IsOnTop s t thread frame below → IsOfCalls program limits s t thread frame joins accesses (P joins accesses)
  pub actions : IsOfActions program limits s t thread (P [] [])
  pub pops : IsOfPops limits s thread.frames (P [] [])
  pub goes : (act : FrameAction) → P [] [] (decision.Applies (action.Goes act))
  pub enters : thread.frames ≡ [] → (n : MethodNumber) (body : Body) (locked : Lock) → P [] [] (decision.Applies (action.Enters n body locked))
  pub initialises : (n : MethodNumber) (body : Body) → P [] [] (decision.Applies (action.Initialises n body))
  pub finishes : (c : ℕ) (called : Bool) (below : List Frame) → thread.frames ≡ stack_frame.Initialisation c called ∷ below → (class : ℕ) → P [] [] (decision.Applies (action.Finishes class))
  pub retakes : (w : Wait) → P [] [] (decision.Applies (action.Retakes w))

module _ (program : List Class) (limits : Limits) (start : Start) (s : State) (t : ℕ) (P : List Item → List Item → TurnDecision → Type 0) where
  -- The property of a decision with the joins and accesses of an optional call.
  abbrev pub OfCall : Option MethodFrame → TurnDecision → Type 0
  OfCall o d = P (join_of_call program s t o) (access_of_call program t o) d

  abbrev OfInstruction : MethodFrame → Option Instruction → TurnDecision → Type 0
  OfInstruction frame i d = P (join_of program s t frame i) (access_of program t frame.activation.operands i) d

  module _ (thread : Thread) (leaves : IsOfTurns program limits s t thread P) where
    silent_tests : IsOfTests limits s thread (P [] [])
    silent_tests = leaves.actions.of_tests

    -- ---- Instructions

    module _ (frame : MethodFrame) (below : List Frame) (top : IsOnTop s t thread frame below) where
      -- An instruction that its frame alone decides, or that accesses no variable.
      frame_by : (i : Instruction) (d : FrameDecision) → P [] [] (reaching_decision program limits s t thread frame below i) → P [] [] (instruction_decision program limits s t thread frame below i d)
      frame_by i (frame_decided.Does act) has = leaves.goes act
      frame_by i (frame_decided.Throws class) has = silent_tests.thrown_by class
      frame_by i (frame_decided.Stops why) has = silent_tests.unmade (outcome.Bad why)
      frame_by i frame_decided.Beyond has = has

      frame_has : (i : Instruction) → P [] [] (reaching_decision program limits s t thread frame below i) → P [] [] (instruction_decision program limits s t thread frame below i (frame_decision frame.body i frame.activation))
      frame_has i has = frame_by i (frame_decision frame.body i frame.activation) has

      -- An instruction that a sound state excludes.
      none_seen : P [] [] never_seen
      none_seen = silent_tests.unmade (outcome.Bad cause.OutOfProfile)

      -- An instruction that is outside the profile, or reaches beyond its frame.
      beyond_has : (joins accesses : List Item) (i : Instruction) (outside : Bool) → P joins accesses (reaching_decision program limits s t thread frame below i) → P joins accesses (instruction_decision program limits s t thread frame below i (beyond_unless outside))
      beyond_has joins accesses i outside has =
          let tests = (leaves.calls frame below joins accesses top).of_tests in
          cond_both outside _ _ (λ d. P joins accesses (instruction_decision program limits s t thread frame below i d))
          (λ _. tests.unmade (outcome.Bad cause.OutOfProfile))
          (λ _. has)

      array_has : (i : ArrayInsn) → P [] (array_access t i frame.activation.operands) (array_decision program limits s thread frame i)
      unfolding array_decision
      array_has (array_insn.New type) = new_array_has program limits s t thread (P [] []) leaves.actions frame type
      array_has array_insn.Length = length_of_array_has program limits s t thread (P [] []) leaves.actions frame
      array_has (array_insn.Load k) =
          let accesses = array_access t (array_insn.Load k) frame.activation.operands in
          loading_has program limits s t thread frame accesses (P [] accesses) (leaves.calls frame below [] accesses top) k refl
      array_has (array_insn.Store k) =
          let accesses = array_access t (array_insn.Store k) frame.activation.operands in
          storing_has program limits s t thread frame accesses (P [] accesses) (leaves.calls frame below [] accesses top) k refl

      array_reached : (i : ArrayInsn) → P [] (array_access t i frame.activation.operands) (reaching_decision program limits s t thread frame below (instruction.Simple (simple.Array i)))
      unfolding reaching_decision
      array_reached i = array_has i

      field_reached : (how : FieldUse) (r : FieldReference) → P [] (resolved_access t how r.field_type frame.activation.operands (resolved_field program (is_static_use how) r)) (reaching_decision program limits s t thread frame below (instruction.Field how r))
      unfolding reaching_decision
      field_reached how r =
          let accesses = resolved_access t how r.field_type frame.activation.operands (resolved_field program (is_static_use how) r) in
          field_has program limits s t thread frame accesses (P [] accesses) (leaves.calls frame below [] accesses top) how r refl

      invoke_reached : (how : Invoke) (r : MethodReference) → instruction_at frame ≡ Some (instruction.Invoke how r) → P (join_items t (joined_for program s frame how r (receiver_reference how r frame.activation.operands))) [] (reaching_decision program limits s t thread frame below (instruction.Invoke how r))
      unfolding reaching_decision
      invoke_reached how r at =
          let joins = join_items t (joined_for program s frame how r (receiver_reference how r frame.activation.operands)) in
          invoke_has program limits s t thread frame joins (P joins []) (leaves.calls frame below joins [] top) how r at below top refl

      return_reached : (how : ReturnInsn) → P [] [] (reaching_decision program limits s t thread frame below (instruction.Simple (simple.Return how)))
      unfolding reaching_decision
      return_reached how = method_return_has program limits s t thread.frames (P [] []) leaves.pops frame below top.frames_are how (method_at program frame.method)

      simple_has : (i : Simple) → OfInstruction frame (Some (instruction.Simple i)) (instruction_decision program limits s t thread frame below (instruction.Simple i) (frame_decision frame.body (instruction.Simple i) frame.activation))
      unfolding frame_decision reaching_decision
      simple_has simple.Nop = frame_has (instruction.Simple simple.Nop) none_seen
      simple_has (simple.Push p) = frame_has (instruction.Simple (simple.Push p)) none_seen
      simple_has (simple.Local how n) = frame_has (instruction.Simple (simple.Local how n)) none_seen
      simple_has (simple.Increment n by) = frame_has (instruction.Simple (simple.Increment n by)) none_seen
      simple_has (simple.Stack f) = frame_has (instruction.Simple (simple.Stack f)) none_seen
      simple_has (simple.Int i) = frame_has (instruction.Simple (simple.Int i)) none_seen
      simple_has (simple.Long i) = frame_has (instruction.Simple (simple.Long i)) none_seen
      simple_has (simple.Floating i) = frame_has (instruction.Simple (simple.Floating i)) none_seen
      simple_has (simple.Array i) = beyond_has [] (array_access t i frame.activation.operands) (instruction.Simple (simple.Array i)) (is_outside_array i) (array_reached i)
      simple_has (simple.Return how) = frame_has (instruction.Simple (simple.Return how)) (return_reached how)
      simple_has (simple.Object object_insn.Throw) =
          frame_has (instruction.Simple (simple.Object object_insn.Throw)) (throw_has program limits s t thread (P [] []) leaves.actions frame)
      simple_has (simple.Object object_insn.MonitorEnter) =
          frame_has (instruction.Simple (simple.Object object_insn.MonitorEnter)) (monitor_enter_has program limits s t thread (P [] []) leaves.actions frame)
      simple_has (simple.Object object_insn.MonitorExit) =
          frame_has (instruction.Simple (simple.Object object_insn.MonitorExit)) (monitor_exit_has program limits s t thread (P [] []) leaves.actions frame)

      instruction_has : (i : Instruction) → instruction_at frame ≡ Some i → OfInstruction frame (Some i) (instruction_decision program limits s t thread frame below i (frame_decision frame.body i frame.activation))
      unfolding frame_decision reaching_decision
      instruction_has (instruction.Simple i) at = simple_has i
      instruction_has (instruction.Branch how target) at = frame_has (instruction.Branch how target) none_seen
      instruction_has (instruction.Table w) at = frame_has (instruction.Table w) none_seen
      instruction_has (instruction.Lookup w) at = frame_has (instruction.Lookup w) none_seen
      instruction_has (instruction.Constant c) at = frame_has (instruction.Constant c) (loadable_has program limits s t thread (P [] []) leaves.actions frame c)
      instruction_has (instruction.Field how r) at =
          beyond_has [] (resolved_access t how r.field_type frame.activation.operands (resolved_field program (is_static_use how) r)) (instruction.Field how r) (is_outside_element r.field_type.element) (field_reached how r)
      instruction_has (instruction.Invoke how r) at =
          beyond_has (join_items t (joined_for program s frame how r (receiver_reference how r frame.activation.operands))) [] (instruction.Invoke how r) (is_outside_method r.method_type) (invoke_reached how r at)
      instruction_has (instruction.Class how name) at = frame_has (instruction.Class how name) (class_has program limits s t thread (P [] []) leaves.actions frame how name)
      instruction_has (instruction.MultiNewArray dimensions name) at =
          frame_has (instruction.MultiNewArray dimensions name) (new_arrays_has program limits s t thread (P [] []) leaves.actions frame name dimensions)

      frame_turn_has : (o : Option Instruction) → instruction_at frame ≡ o → OfInstruction frame o (frame_turn_decision program limits s t thread frame below o)
      frame_turn_has None at = silent_tests.unmade (outcome.Bad cause.FellOff)
      frame_turn_has (Some i) at = instruction_has i at

    -- ---- Turns

    stack_has : (frames : List Frame) → slice_get s.threads t ≡ Some thread → thread.waits ≡ None → thread.frames ≡ frames → OfCall (call_on frames) (frames_decision program limits start s t thread frames)
    stack_has [] there awake is = first_call_has program limits s t thread (P [] []) leaves.actions (leaves.enters is) start
    stack_has (stack_frame.Initialisation class called ∷ below) there awake is =
        initialisation_has program limits s t thread (P [] []) leaves.actions leaves.initialises (leaves.finishes class called below is) class called (slice_get program class)
    stack_has (stack_frame.Call frame ∷ below) there awake is = frame_turn_has frame below (record { given_out = there; awake = awake; frames_are = is }) (instruction_at frame) refl

    retake_has : (w : Wait) (o : Option Hold) → P [] [] (retake_decision w o)
    retake_has w (Some h) = silent_tests.unmade (outcome.Blocked (blocked.Monitor w.reference h.owner))
    retake_has w None = leaves.retakes w

    waiting_has : (w : Wait) → P [] [] (waiting_decision s t w)
    unfolding waiting_decision
    waiting_has w =
        cond_both (is_waiter t s.waiters) _ _ (P [] [])
        (λ _. silent_tests.unmade (outcome.Blocked (blocked.Wait w.reference)))
        (λ _. retake_has w (monitor_at s.monitors w.reference))

    -- The turn of a thread by its status.
    pub given_out_has : (has_ended : Bool) (pending : Option ℕ) (waits : Option Wait) → slice_get s.threads t ≡ Some thread → thread.waits ≡ waits → OfCall (call_by thread (status_by has_ended pending waits)) (started_decision program limits start s t thread (status_by has_ended pending waits))
    given_out_has true pending waits there is = silent_tests.unmade (outcome.Ended false)
    given_out_has false (Some r) waits there is = unwinding_has program limits s t thread (P [] []) leaves.pops r
    given_out_has false None (Some w) there is = waiting_has w
    given_out_has false None None there is = stack_has thread.frames there is refl
