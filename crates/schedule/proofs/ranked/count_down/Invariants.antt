use Rattle.std.proofs.Common.{◌≡◌, ◌≤◌, ◌++◌, drop, take}
use Rattle.schedule.specs.Choosers.{left_after}
use Rattle.schedule.proofs.ranked.count_down.Given as goal

abbrev pub invariant-loop-place : goal.invariant-loop-place
invariant-loop-place l =
    (l.left ≤ l.place) × (take l.left l.changes ++ left_after (drop l.place l.changes) ≡ left_after l.fn.changes)
