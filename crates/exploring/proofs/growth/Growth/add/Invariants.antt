use Rattle.std.proofs.Common.{◌≡◌, ◌++◌, take}
use Rattle.explore_jobs.specs.Children.{with_each}
use Rattle.exploring.proofs.growth.Growth.add.Given as goal

abbrev pub invariant-loop-departure : goal.invariant-loop-departure
invariant-loop-departure l =
    (l.self.jobs ≡ record { each = l.fn.self.jobs.each; jobs = l.fn.self.jobs.jobs ++ with_each l.parent (take l.departure-index l.departure-items) })
    × (l.self.count ≡ l.fn.self.count)
