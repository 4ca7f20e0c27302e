use Rattle.enabled_laws.proofs.QuietTurns.{kept_leaves_enabled}
use Rattle.enabled_laws.proofs.laws.a_turn_that_keeps_what_is_waited_for_leaves_the_others_as_enabled.Goals as goal

pub returns-clause-enabled : goal.returns-clause-enabled
returns-clause-enabled c = λ program limits start s t u is are starts sound other fit keeps. (kept_leaves_enabled program limits start s t u is are starts sound other keeps fit).0

pub returns-clause-fit : goal.returns-clause-fit
returns-clause-fit c = λ program limits start s t u is are starts sound other fit keeps. (kept_leaves_enabled program limits start s t u is are starts sound other keeps fit).1
