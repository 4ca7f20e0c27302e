use Rattle.std.proofs.Common.{◌≡◌, drop}
use Rattle.schedule.specs.Choosers.{priority_after}
use Rattle.schedule.proofs.ranked.Ranked.priority.Given as goal

abbrev pub invariant-loop-place : goal.invariant-loop-place
invariant-loop-place l =
    priority_after (drop l.place l.moved) l.self.least l.self.generator l.thread ≡ priority_after l.moved l.self.least l.self.generator l.thread
