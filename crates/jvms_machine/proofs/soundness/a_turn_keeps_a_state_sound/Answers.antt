use Rattle.jvms_machine.proofs.TurnSoundness.{turn_keeps}
use Rattle.jvms_machine.proofs.soundness.a_turn_keeps_a_state_sound.Goals as goal

pub returns : goal.returns
returns c = turn_keeps
