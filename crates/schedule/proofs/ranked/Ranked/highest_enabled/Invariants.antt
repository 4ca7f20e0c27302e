use Rattle.std.proofs.Common.{◌≡◌, ◌-◌, IfSome}
use Rattle.std.specs.List.{filter, range_with_len}
use Rattle.schedule.specs.Choosers.{enabled_of, highest, highest_from, priority}
use Rattle.schedule.specs.Rankings.{thread_of}
use Rattle.schedule.proofs.ranked.Ranked.highest_enabled.Given as goal

abbrev pub invariant-loop-thread : goal.invariant-loop-thread
invariant-loop-thread g l =
    IfSome l.best (λ b. b.priority ≡ priority l.self b.thread)
    × (highest_from (priority l.self) (thread_of l.best) (filter (g.T.Threads.passes l.threads) (range_with_len l.thread (l.thread-end - l.thread)))
    ≡ highest l.self (enabled_of (g.T.Threads.passes l.threads) l.thread-end))
