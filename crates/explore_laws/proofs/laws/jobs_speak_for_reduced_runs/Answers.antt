use Rattle.explore_laws.proofs.Reduced.{covered}
use Rattle.explore_laws.proofs.laws.jobs_speak_for_reduced_runs.Goals as goal

pub returns : goal.returns
returns c = λ program limits start stays can lines turns s most good choices run reduced. covered program limits start stays can lines turns s most good choices run reduced
