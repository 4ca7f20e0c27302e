use Rattle.jvms_machine.proofs.TurnSoundness.{turn_marks}
use Rattle.jvms_machine.proofs.soundness.marks_are_those_of_frames.Goals as goal

pub returns : goal.returns
returns c = turn_marks
