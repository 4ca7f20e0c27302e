-- The turns that were taken are the first of those that the chooser gives.
use Rattle.std.proofs.Common.{◌-◌}
use Rattle.runs.proofs.ChosenTurns.{AreTaken}
use Rattle.runs.specs.Kept.{IsKept}
use Rattle.runs.proofs.turns.take_turns.Given as goal

abbrev pub invariant-loop-made : goal.invariant-loop-made
invariant-loop-made l =
    record {
      taken : AreTaken l.fn.machine l.fn.chooser l.fn.most l.fn.recording l.made l.choices.items l.outcomes l.machine l.chooser l.recording;
      enabled : IsKept l.machine l.kept;
    }

abbrev pub decreases-loop-made : goal.decreases-loop-made
decreases-loop-made l = l.most - l.made
