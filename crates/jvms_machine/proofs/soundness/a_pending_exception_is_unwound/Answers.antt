use Rattle.jvms_machine.proofs.UnwoundTurns.{pending_is_unwound}
use Rattle.jvms_machine.proofs.soundness.a_pending_exception_is_unwound.Goals as goal

pub returns : goal.returns
returns c = pending_is_unwound
