use Rattle.jvms_machine.proofs.RunLaws.{run_append}
use Rattle.jvms_machine.proofs.laws.a_run_continues_another.Goals as goal

pub returns : goal.returns
returns c = run_append
