use Rattle.std.proofs.Common.{List, ap, ◌∙◌}
use Rattle.departures.specs.declared.departure.Departure.{Departure}
use Rattle.exploring.specs.Levels.{LevelJobs, jobs_in}
use Rattle.exploring.proofs.Split.{one_in}
use Rattle.exploring.proofs.jobs.Jobs.first.Goals as goal

level : List (List Departure) → LevelJobs
level jobs = record { each = 0; jobs = jobs }

pub returns : goal.returns
unfolding level
returns c = ap (λ xs. level (jobs_in 1 0 xs)) c.new.ensures.items ∙ ap level one_in
