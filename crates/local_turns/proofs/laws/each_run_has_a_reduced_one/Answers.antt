use Rattle.local_turns.proofs.Covered.{stood_for}
use Rattle.local_turns.proofs.laws.each_run_has_a_reduced_one.Goals as goal

pub returns : goal.returns
returns c = λ program limits start is are starts s last choices sound run stuck. stood_for program limits start is are starts s last choices sound run stuck
