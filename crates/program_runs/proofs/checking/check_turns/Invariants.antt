-- The turns before this round were taken and checked.
use Rattle.std.proofs.Common.{◌≡◌, ◌-◌, []}
use Rattle.program_runs.proofs.Checked.{AreTaken}
use Rattle.program_runs.proofs.checking.check_turns.Given as goal

abbrev pub invariant-loop-taken : goal.invariant-loop-taken
invariant-loop-taken l =
    (l.trace ≡ []) × AreTaken l.fn.machine l.fn.chooser l.fn.checker l.most l.taken l.machine l.chooser l.checker

abbrev pub decreases-loop-taken : goal.decreases-loop-taken
decreases-loop-taken l = l.most - l.taken
