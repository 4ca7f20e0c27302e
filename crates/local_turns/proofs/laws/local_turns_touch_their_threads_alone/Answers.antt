use Rattle.local_turns.proofs.Turned.{are_local}
use Rattle.local_turns.proofs.laws.local_turns_touch_their_threads_alone.Goals as goal

pub returns : goal.returns
returns c = λ program limits start is are starts. are_local program limits start is are starts
