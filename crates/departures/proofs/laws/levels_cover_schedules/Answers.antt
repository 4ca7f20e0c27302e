use Rattle.std.proofs.Common.{false, ◌≡◌}
use Rattle.departures.proofs.Cover.{covered_to}
use Rattle.departures.proofs.laws.levels_cover_schedules.Goals as goal

pub returns : goal.returns
returns g c = λ system is_local starts turns s last most report good choices is reduced within. covered_to system is_local starts turns s last most (λ x. report x ≡ false) good choices is reduced within
