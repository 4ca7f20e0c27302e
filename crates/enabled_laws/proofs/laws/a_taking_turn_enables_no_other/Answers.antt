use Rattle.enabled_laws.proofs.Directions.{taking_disables}
use Rattle.enabled_laws.proofs.laws.a_taking_turn_enables_no_other.Goals as goal

pub returns-clause-enabled : goal.returns-clause-enabled
returns-clause-enabled c = λ program limits start s t u thread is are starts sound other there fit takes. (taking_disables program limits start s t u thread is are starts sound other there fit takes).0

pub returns-clause-fit : goal.returns-clause-fit
returns-clause-fit c = λ program limits start s t u thread is are starts sound other there fit takes. (taking_disables program limits start s t u thread is are starts sound other there fit takes).1
