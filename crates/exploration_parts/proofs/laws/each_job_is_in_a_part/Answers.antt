use Rattle.departures.proofs.Lists.{in_level}
use Rattle.exploration_parts.proofs.Parts.{in_a_part}
use Rattle.exploration_parts.proofs.laws.each_job_is_in_a_part.Goals as goal

pub returns : goal.returns
returns g c = λ system is_local count some turns s last level ds job. in_a_part system is_local count some turns s last level ds (in_level system is_local level turns s last ds job)
