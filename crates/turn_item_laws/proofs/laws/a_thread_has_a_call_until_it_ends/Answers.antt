use Rattle.turn_item_laws.proofs.LowestCalls.{opening_has_lowest_calls, turn_keeps_lowest_calls}
use Rattle.turn_item_laws.proofs.laws.a_thread_has_a_call_until_it_ends.Goals as goal

pub returns-clause-opening : goal.returns-clause-opening
returns-clause-opening c = opening_has_lowest_calls

pub returns-clause-turns : goal.returns-clause-turns
returns-clause-turns c = turn_keeps_lowest_calls
