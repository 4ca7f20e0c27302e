use Rattle.jvms_machine.proofs.OpeningSoundness.{opening_is_sound}
use Rattle.jvms_machine.proofs.soundness.the_opening_state_is_sound.Goals as goal

pub returns : goal.returns
returns c = opening_is_sound
