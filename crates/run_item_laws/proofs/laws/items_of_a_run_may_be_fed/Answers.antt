use Rattle.jvms_machine.specs.Opening.{opening}
use Rattle.run_item_laws.proofs.EventCounts.{run_begins_with_few_events, run_has_few_events}
use Rattle.run_item_laws.proofs.Runs.{items_are_matched}
use Rattle.run_item_laws.proofs.laws.items_of_a_run_may_be_fed.Goals as goal

pub returns-clause-matched : goal.returns-clause-matched
returns-clause-matched c = λ lines program limits start choices is are starts. items_are_matched lines program limits start is are starts choices

pub returns-clause-few : goal.returns-clause-few
returns-clause-few c = λ lines program limits start choices. run_has_few_events lines program limits start (opening program) choices

pub returns-clause-within : goal.returns-clause-within
returns-clause-within c = λ lines program limits start choices before after parts. run_begins_with_few_events lines program limits start (opening program) choices before after parts
