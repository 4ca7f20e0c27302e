-- The machine as contracts see it.
use Rattle.std.specs.Prelude.{◌≡◌, ℕ, ◌≤◌, List, [], length, Option, Some, None, IsTrue, slice_get}
use Rattle.jvms_machine.specs.declared.machine.Limits.{Limits}
use Rattle.jvms_program.specs.declared.key.FieldKey.{FieldKey}
use Rattle.jvms_machine.specs.declared.value.Value.{Value}
use Rattle.jvms_machine.specs.Decisions.{TurnAction, TurnDecision}
use Rattle.jvms_program.specs.declared.program.Class.{Class}
use Rattle.jvms_program.specs.Program.{IsProgram}
use Rattle.jvms_machine.specs.State.{State, Thread, Sound}
use Rattle.jvms_machine.specs.Start.{Start, IsStart}
use Rattle.jvms_machine.specs.Limits.{are_limits}
use Rattle.jvms_machine.specs.Actions.{applied_to}
use Rattle.jvms_machine.specs.Turn.{Transition, decide, turn}

-- A machine: its program, its limits, its start, and its state.
pub record Machine : Type 0 where
  pub program : List Class
  pub limits : Limits
  pub start : Start
  pub state : State

-- The invariant of every machine.
pub record IsMachine (m : Machine) : Type 0 where
  pub limits : IsTrue (are_limits m.limits)
  pub start : IsStart m.start
  pub classes : IsProgram m.program
  pub sound : Sound m.program m.limits m.state

-- ---- Turns

-- Returns the decision on a thread's turn.
abbrev pub decision_of : Machine → ℕ → TurnDecision
decision_of m t = decide m.program m.limits m.start m.state t

-- Returns the transition of a thread's turn.
abbrev pub transition_of : Machine → ℕ → Transition
transition_of m t = turn m.program m.limits m.start m.state t

abbrev pub with_state : Machine → State → Machine
with_state m s = record m { state = s }

abbrev pub with_statics : List (FieldKey × Value) → Machine → Machine
with_statics statics m = record m { state = record m.state { statics = statics } }

-- Returns the machine after an action of a thread's turn.
abbrev pub after : Machine → ℕ → TurnAction → Machine
after m t act = with_state m (applied_to m.program m.start m.state t act)

-- Returns the number of frames of a thread.
abbrev pub height : Option Thread → ℕ
height None = 0
height (Some t) = length t.frames

-- A transition that gives no item, pushes no frame, creates no object and prints nothing. Such a turn takes no memory.
abbrev pub TakesNone : Machine → ℕ → Type 0
TakesNone m t =
    ((transition_of m t).items ≡ []) × (height (slice_get (transition_of m t).state.threads t) ≤ height (slice_get m.state.threads t))
    × (length (transition_of m t).state.heap ≤ length m.state.heap) × (length (transition_of m t).state.output ≤ length m.state.output)
