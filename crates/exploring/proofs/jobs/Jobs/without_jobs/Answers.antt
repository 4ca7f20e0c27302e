use Rattle.std.proofs.Common.{List, ap, ℕ}
use Rattle.departures.specs.declared.departure.Departure.{Departure}
use Rattle.exploring.specs.Levels.{LevelJobs}
use Rattle.exploring.proofs.Split.{none_in}
use Rattle.exploring.proofs.jobs.Jobs.without_jobs.Goals as goal

level : ℕ → List (List Departure) → LevelJobs
level each jobs = record { each = each; jobs = jobs }

pub returns : goal.returns
unfolding level
returns c = ap (level c.args.each) (none_in c.args.each c.new.result.items)
