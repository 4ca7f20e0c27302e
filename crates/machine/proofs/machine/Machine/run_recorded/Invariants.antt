use Rattle.std.proofs.Common.{◌≡◌, take, length}
use Rattle.machine.specs.Runs.{IsRun}
use Rattle.machine.proofs.machine.Machine.run_recorded.Given as goal

-- The choices before the index were taken, and each has its outcome.
abbrev pub invariant-loop-choice : goal.invariant-loop-choice
invariant-loop-choice l =
    record {
      ran : IsRun l.fn.self (take l.choice-index l.fn.choices) l.outcomes.items l.self l.fn.recording l.recording;
      many : length l.outcomes.items ≡ l.choice-index;
    }
