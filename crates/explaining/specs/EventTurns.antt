-- Defines the turn of each event of a run, and the place of its thread in the program (own).
use Rattle.std.specs.Prelude.{ℕ, ◌+◌, List, [], ◌∷◌, ◌++◌, map, Option, Some, None}
use Rattle.std.specs.List.{filter}
use Rattle.jvms_program.specs.declared.number.MethodNumber.{MethodNumber}
use Rattle.jvms_machine.specs.declared.state.StackFrame.TheVariants as stack_frame
use Rattle.jvms_machine.specs.State.{Frame}
use Rattle.machine.specs.Machine.{Machine, transition_of}
use Rattle.machine.specs.Views.{frame_at}
use Rattle.runs.specs.Choices.{after_turn}
use Rattle.velodrome.specs.Transactions.{is_event}
use Rattle.explaining.specs.declared.event_turns.EventTurn.{EventTurn}

-- Returns the method and the next instruction of a call.
abbrev pub call_place : Option Frame → Option (MethodNumber × ℕ)
call_place (Some (stack_frame.Call f)) = Some (f.method, f.activation.place)
call_place _ = None

-- Returns the turn and the place of each event of a thread's turn.
abbrev pub turn_at : ℕ → Machine → ℕ → EventTurn
turn_at turn m t = record { turn = turn; place = call_place (frame_at m t 0) }

-- Returns the turns of the events of choices. The first choice has this turn, and each event has the turn of its
-- choice.
abbrev pub event_turns : ℕ → Machine → List ℕ → List EventTurn
event_turns turn m [] = []
event_turns turn m (t ∷ choices) =
    map (λ i. turn_at turn m t) (filter is_event (transition_of m t).items) ++ event_turns (turn + 1) (after_turn m t) choices
