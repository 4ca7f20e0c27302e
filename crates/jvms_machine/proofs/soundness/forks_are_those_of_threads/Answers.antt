use Rattle.jvms_machine.proofs.TurnSoundness.{turn_is_told}
use Rattle.jvms_machine.proofs.soundness.forks_are_those_of_threads.Goals as goal

pub returns : goal.returns
returns c = λ program limits start s t is are starts sound. (turn_is_told program limits start s t is are starts sound).forks
