use Rattle.std.proofs.Common.{◌≡◌, drop}
use Rattle.schedule.specs.Choosers.{due}
use Rattle.schedule.proofs.ranked.due.Given as goal

abbrev pub invariant-loop-place : goal.invariant-loop-place
invariant-loop-place l = due (drop l.place l.changes) ≡ due l.changes
