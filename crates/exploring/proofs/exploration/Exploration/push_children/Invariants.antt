use Rattle.std.proofs.Common.{Ok, drop, length, take, ◌+◌, ◌≡◌}
use Rattle.std.specs.List.{AllZip}
use Rattle.exploring.specs.Batches.{AddsChildrenOf}
use Rattle.exploring.specs.Explorations.{children_of_all, level_in}
use Rattle.exploring.specs.Growths.{IsGrowthOf}
use Rattle.jvms_machine.specs.Opening.{start_of_entry}
use Rattle.jvms_machine.specs.Start.{Start}
use Rattle.exploring.proofs.exploration.Exploration.push_children.Given as goal

abbrev pub invariant-loop-place : goal.invariant-loop-place
invariant-loop-place l =
    (l.growth.jobs.each ≡ level_in l.self + 1)
    × ((start : Start) → start_of_entry l.self.program l.self.plan.limits l.self.plan.entry ≡ Ok start
    → AllZip (AddsChildrenOf l.self.program l.self.plan) (take (length l.added) (drop l.from l.self.jobs.jobs)) l.added
    → IsGrowthOf l.room (children_of_all l.self.program l.self.plan start (take l.from l.self.jobs.jobs)) l.fn.growth
    → IsGrowthOf l.room (children_of_all l.self.program l.self.plan start (take (l.from + l.place) l.self.jobs.jobs)) l.growth)
