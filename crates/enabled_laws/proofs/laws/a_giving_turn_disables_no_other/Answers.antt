use Rattle.enabled_laws.proofs.Directions.{enabled_is_fit, giving_enables}
use Rattle.enabled_laws.proofs.laws.a_giving_turn_disables_no_other.Goals as goal
use Rattle.jvms_machine.specs.Turn.{turn}

pub returns-clause-enabled : goal.returns-clause-enabled
returns-clause-enabled c = λ program limits start s t u thread is are starts sound other there gives on. (giving_enables program limits start s t u thread is are starts sound other there (enabled_is_fit (turn program limits start s u).outcome on) gives).0 on

pub returns-clause-fit : goal.returns-clause-fit
returns-clause-fit c = λ program limits start s t u thread is are starts sound other there fit gives. (giving_enables program limits start s t u thread is are starts sound other there fit gives).1
