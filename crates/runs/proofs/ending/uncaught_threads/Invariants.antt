-- The threads found so far, and those that are left, are all.
use Rattle.std.proofs.Common.{◌≡◌, length}
use Rattle.runs.specs.Endings.{uncaught_threads}
use Rattle.runs.proofs.UncaughtLaws.{with_left}
use Rattle.runs.proofs.ending.uncaught_threads.Given as goal

abbrev pub invariant-loop-t : goal.invariant-loop-t
invariant-loop-t l =
    (l.t-end ≡ length l.machine.state.threads) × (with_left l.machine l.threads.items l.t ≡ uncaught_threads l.machine.state)
