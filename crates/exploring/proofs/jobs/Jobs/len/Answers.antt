use Rattle.std.proofs.Common.{ap, length, sym, ◌∙◌}
use Rattle.exploring.specs.Levels.{LevelJobs}
use Rattle.exploring.proofs.Split.{count_is}
use Rattle.exploring.proofs.jobs.Jobs.len.Goals as goal

pub returns : goal.returns
returns c = sym (count_is c.self.inside.count c.self.inside.each c.self.inside.departures.items) ∙ ap (λ (j : LevelJobs). length j.jobs) c.self.view_is
