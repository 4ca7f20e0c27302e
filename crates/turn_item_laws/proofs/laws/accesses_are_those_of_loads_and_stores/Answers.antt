use Rattle.turn_item_laws.proofs.TurnItems.{turn_accesses}
use Rattle.turn_item_laws.proofs.laws.accesses_are_those_of_loads_and_stores.Goals as goal

pub returns : goal.returns
returns c = turn_accesses
