use Rattle.jvms_machine.proofs.UnmadeTurns.{unmade_turn_keeps}
use Rattle.jvms_machine.proofs.soundness.a_disabled_turn_changes_nothing.Goals as goal

pub returns-clause-state : goal.returns-clause-state
returns-clause-state c = λ program limits start s t disabled. (unmade_turn_keeps program limits start s t disabled).0

pub returns-clause-items : goal.returns-clause-items
returns-clause-items c = λ program limits start s t disabled. (unmade_turn_keeps program limits start s t disabled).1
