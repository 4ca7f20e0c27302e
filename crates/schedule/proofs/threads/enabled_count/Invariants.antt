use Rattle.std.proofs.Common.{◌≡◌, ◌-◌, ◌+◌, ◌≤◌, length}
use Rattle.std.specs.List.{filter, range_with_len}
use Rattle.schedule.specs.Choosers.{enabled_of}
use Rattle.schedule.proofs.threads.enabled_count.Given as goal

abbrev pub invariant-loop-thread : goal.invariant-loop-thread
invariant-loop-thread g l =
    (l.enabled + length (filter (g.T.Threads.passes l.threads) (range_with_len l.thread (l.thread-end - l.thread)))
    ≡ length (enabled_of (g.T.Threads.passes l.threads) l.thread-end))
    × (l.enabled ≤ l.thread)
