use Rattle.std.proofs.Common.{◌≡◌, drop, IfSome}
use Rattle.schedule.specs.Choosers.{highest, highest_from, priority}
use Rattle.schedule.specs.Rankings.{thread_of}
use Rattle.schedule.proofs.ranked.Ranked.highest_among.Given as goal

abbrev pub invariant-loop-place : goal.invariant-loop-place
invariant-loop-place l =
    IfSome l.best (λ b. b.priority ≡ priority l.self b.thread)
    × (highest_from (priority l.self) (thread_of l.best) (drop l.place l.enabled) ≡ highest l.self l.enabled)
