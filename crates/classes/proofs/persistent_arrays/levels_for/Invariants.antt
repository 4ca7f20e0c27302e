use Rattle.std.proofs.Common.{◌<◌, ◌≤◌, ◌+◌, ◌*◌, ◌^◌}
use Rattle.classes.proofs.persistent_arrays.levels_for.Given as goal

-- The levels so far and what is left are enough.
abbrev pub invariant-loop-left : goal.invariant-loop-left
invariant-loop-left l = (l.count < (l.left + 1) * 4 ^ l.levels) × (l.levels + l.left ≤ l.count)

abbrev pub decreases-loop-left : goal.decreases-loop-left
decreases-loop-left l = l.left
