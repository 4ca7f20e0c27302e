use Rattle.std.proofs.Common.{length, ◌-◌, ◌≡◌}
use Rattle.exploring.proofs.answer.Search.run_jobs.Given as goal

abbrev pub invariant-loop-exploration : goal.invariant-loop-exploration
invariant-loop-exploration g l = l.exploration ≡ record l.fn.self.exploration { fates = l.exploration.fates }

abbrev pub decreases-loop-exploration : goal.decreases-loop-exploration
decreases-loop-exploration g l = length l.exploration.jobs.jobs - length l.exploration.fates
