use Rattle.std.proofs.Common.{◌≡◌, ◌-◌}
use Rattle.std.specs.List.{find, range_with_len}
use Rattle.schedule.proofs.threads.first_enabled.Given as goal

abbrev pub invariant-loop-thread : goal.invariant-loop-thread
invariant-loop-thread g l =
    find (g.T.Threads.passes l.threads) (range_with_len l.from (l.to - l.from))
    ≡ find (g.T.Threads.passes l.threads) (range_with_len l.thread (l.to - l.thread))
