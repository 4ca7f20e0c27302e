use Rattle.std.proofs.Common.{◌≡◌, ◌-◌, slice_get}
use Rattle.std.specs.List.{filter, range_with_len}
use Rattle.schedule.specs.Choosers.{enabled_of}
use Rattle.schedule.proofs.threads.enabled_at.Given as goal

abbrev pub invariant-loop-thread : goal.invariant-loop-thread
invariant-loop-thread g l =
    slice_get (enabled_of (g.T.Threads.passes l.threads) l.thread-end) l.place
    ≡ slice_get (filter (g.T.Threads.passes l.threads) (range_with_len l.thread (l.thread-end - l.thread))) l.before
