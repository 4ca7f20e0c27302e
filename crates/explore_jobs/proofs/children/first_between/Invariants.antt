use Rattle.std.proofs.Common.{◌≡◌, ◌-◌}
use Rattle.departures.specs.Departures.{first_in}
use Rattle.explore_jobs.specs.Children.{turns_in}
use Rattle.explore_jobs.proofs.children.first_between.Given as goal

abbrev pub invariant-loop-thread : goal.invariant-loop-thread
invariant-loop-thread l =
    first_in (turns_in l.machine) l.machine.state l.thread (l.to - l.thread)
    ≡ first_in (turns_in l.machine) l.machine.state l.from (l.to - l.from)
