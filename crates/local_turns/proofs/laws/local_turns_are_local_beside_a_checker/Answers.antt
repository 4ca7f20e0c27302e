use Rattle.local_turns.proofs.Judging.{judged_local}
use Rattle.local_turns.proofs.laws.local_turns_are_local_beside_a_checker.Goals as goal

pub returns : goal.returns
returns c = λ program limits start lines is are starts. judged_local lines program limits start is are starts
