use Rattle.shrinking.proofs.Tests.{one_test}
use Rattle.shrinking.proofs.laws.a_job_has_one_test.Goals as goal

pub returns : goal.returns
returns c = λ program plan way departures first second one other. one_test program plan way departures first second one other
