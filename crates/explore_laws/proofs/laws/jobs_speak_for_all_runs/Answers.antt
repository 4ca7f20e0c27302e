use Rattle.explore_laws.proofs.Covering.{covered}
use Rattle.explore_laws.proofs.laws.jobs_speak_for_all_runs.Goals as goal

pub returns : goal.returns
returns c = λ program limits start is are starts lines turns s most sound good choices run. covered program limits start is are starts lines turns s most sound good choices run
