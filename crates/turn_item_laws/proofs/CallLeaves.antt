-- The possible decisions on an instruction that calls a method or accesses a variable.
use Rattle.std.proofs.Common.{List, None, Some, slice_get, ℕ, ◌+◌, ◌∷◌, ◌≡◌}
use Rattle.std.specs.List.{filter}
use Rattle.jvms_program.specs.Program.{IsProgram}
use Rattle.jvms_program.specs.declared.number.MethodNumber.{MethodNumber}
use Rattle.jvms_program.specs.declared.program.Body.{Body}
use Rattle.jvms_program.specs.declared.program.Class.{Class}
use Rattle.jvms_machine.specs.Actions.{effect_items}
use Rattle.jvms_machine.specs.Activations.{activation_after}
use Rattle.jvms_machine.specs.Decisions.{TurnDecision}
use Rattle.jvms_machine.specs.Fields.{reaches}
use Rattle.jvms_machine.specs.State.{Frame, MethodFrame, Sound, State, Thread}
use Rattle.jvms_machine.specs.declared.action.Action.TheVariants as action
use Rattle.jvms_machine.specs.declared.action.Decision.TheVariants as decision
use Rattle.jvms_machine.specs.declared.action.Effect.{Effect}
use Rattle.jvms_machine.specs.declared.action.FrameAction.{FrameAction}
use Rattle.jvms_machine.specs.declared.action.Lock.{Lock}
use Rattle.jvms_machine.specs.declared.machine.Limits.{Limits}
use Rattle.jvms_machine.specs.declared.state.StackFrame.TheVariants as stack_frame
use Rattle.jvms_machine.specs.declared.state.Wait.{Wait}
use Rattle.jvms_machine.specs.declared.trace.Item.{Item}
use Rattle.turn_item_laws.proofs.DecisionWalks.{IsOfTests}
use Rattle.turn_item_laws.specs.Accesses.{is_access}
use Rattle.turn_item_laws.specs.Joins.{is_join}

-- The conditions under which the states determine joins.
abbrev pub AreKnown : List Class → Limits → State → Type 0
AreKnown program limits s = IsProgram program × Sound program limits s

-- The top call of a thread that was started and doesn't wait.
pub record IsOnTop (s : State) (t : ℕ) (thread : Thread) (frame : MethodFrame) (below : List Frame) : Type 0 where
  pub given_out : slice_get s.threads t ≡ Some thread
  pub awake : thread.waits ≡ None
  pub frames_are : thread.frames ≡ stack_frame.Call frame ∷ below

-- A frame action that continues at the next instruction.
abbrev pub IsNext : MethodFrame → FrameAction → Type 0
IsNext frame act = (activation_after act frame.activation).place ≡ frame.activation.place + 1

-- A property of tests, of calls, of waits, and of instructions that continue, with these joins and accesses.
pub record IsOfCalls (program : List Class) (limits : Limits) (s : State) (t : ℕ) (thread : Thread) (frame : MethodFrame) (joins accesses : List Item) (P : TurnDecision → Type 0) : Type 0 where
  pub of_tests : IsOfTests limits s thread P
  pub calls : (n : MethodNumber) (body : Body) (takes : ℕ) (locked : Lock) → P (decision.Applies (action.Calls n body takes locked))
  pub waits : (w : Wait) → P (decision.Applies (action.Waits w))
  pub reached : (what : Effect (List ℕ)) (act : FrameAction) → IsNext frame act → (AreKnown program limits s → filter is_join (effect_items program t what) ≡ joins) → filter is_access (effect_items program t what) ≡ accesses → P (reaches what act)
