use Rattle.std.proofs.Common.{Ok, length, take, ◌+◌, ◌-◌, ◌≡◌, ◌≤◌}
use Rattle.exploring.specs.Explorations.{children_of_all, level_in}
use Rattle.exploring.specs.Growths.{IsGrowthOf}
use Rattle.jvms_machine.specs.Opening.{start_of_entry}
use Rattle.jvms_machine.specs.Start.{Start}
use Rattle.exploring.proofs.exploration.Exploration.children.Given as goal

abbrev pub invariant-loop-from : goal.invariant-loop-from
invariant-loop-from g l =
    (l.growth.jobs.each ≡ level_in l.self + 1) × (l.from ≤ length l.self.jobs.jobs)
    × ((start : Start) → start_of_entry l.self.program l.self.plan.limits l.self.plan.entry ≡ Ok start
    → IsGrowthOf l.room (children_of_all l.self.program l.self.plan start (take l.from l.self.jobs.jobs)) l.growth)

abbrev pub decreases-loop-from : goal.decreases-loop-from
decreases-loop-from g l = length l.self.jobs.jobs - l.from
