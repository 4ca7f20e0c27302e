-- The events so far, those of the choices that are left, and the machine after these.
use Rattle.std.proofs.Common.{◌≡◌, ◌+◌, [], ◌++◌, drop}
use Rattle.machine.specs.Machine.{with_state}
use Rattle.machine.specs.Runs.{run_of}
use Rattle.explaining.specs.EventTurns.{event_turns}
use Rattle.explaining.proofs.event_turns.event_turns.Given as goal

abbrev pub invariant-loop-place : goal.invariant-loop-place
invariant-loop-place l =
    (l.trace ≡ [])
    × (l.events.items ++ event_turns (l.place + 1) l.machine (drop l.place l.choices) ≡ event_turns 1 l.fn.machine l.choices)
    × (with_state l.machine (run_of l.machine (drop l.place l.choices)).state ≡ with_state l.fn.machine (run_of l.fn.machine l.choices).state)
