use Rattle.departures.proofs.Lists.{level_has}
use Rattle.exploration_parts.proofs.Parts.{part_in}
use Rattle.exploration_parts.proofs.laws.a_part_has_jobs.Goals as goal

pub returns : goal.returns
returns g c = λ system is_local part turns s last level ds is. level_has system is_local level turns s last ds (part_in system is_local part turns s last level ds is)
