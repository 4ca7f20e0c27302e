use Rattle.jvms_machine.proofs.TurnSoundness.{turn_is_told}
use Rattle.jvms_machine.proofs.soundness.monitor_events_are_those_of_monitors.Goals as goal

pub returns-clause-acquires : goal.returns-clause-acquires
returns-clause-acquires c = λ program limits start s t is are starts sound. (turn_is_told program limits start s t is are starts sound).acquires

pub returns-clause-releases : goal.returns-clause-releases
returns-clause-releases c = λ program limits start s t is are starts sound. (turn_is_told program limits start s t is are starts sound).releases
