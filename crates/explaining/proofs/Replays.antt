-- Turns that are taken again.
use Rattle.std.proofs.Common.{◌≡◌, ℕ, ◌+◌, List, [], ◌∷◌, ◌++◌, map, refl, append_assoc}
use Rattle.std.specs.List.{filter}
use Rattle.jvms_machine.specs.Run.{run_from}
use Rattle.velodrome.specs.Transactions.{is_event}
use Rattle.machine.specs.Machine.{Machine, transition_of, with_state}
use Rattle.machine.specs.Runs.{run_of}
use Rattle.runs.specs.Choices.{after_turn}
use Rattle.explaining.specs.declared.event_turns.EventTurn.{EventTurn}
use Rattle.explaining.specs.EventTurns.{event_turns, turn_at}

-- The run of a choice and others continues with the others from the machine after its turn.
pub run_on : (m : Machine) (t : ℕ) (rest : List ℕ)
    → with_state (after_turn m t) (run_of (after_turn m t) rest).state ≡ with_state m (run_of m (t ∷ rest)).state
unfolding run_from
run_on m t rest = refl

pub run_over : (m : Machine) → with_state m (run_of m []).state ≡ m
unfolding run_from
run_over m = refl

-- The events of a choice, followed by those of others.
pub turns_on : (so_far : List EventTurn) (turn : ℕ) (m : Machine) (t : ℕ) (rest : List ℕ)
    → (so_far ++ map (λ i. turn_at turn m t) (filter is_event (transition_of m t).items)) ++ event_turns (turn + 1) (after_turn m t) rest
    ≡ so_far ++ event_turns turn m (t ∷ rest)
turns_on so_far turn m t rest = append_assoc so_far (map (λ i. turn_at turn m t) (filter is_event (transition_of m t).items)) _
