use Rattle.turn_item_laws.proofs.TurnItems.{turn_joins}
use Rattle.turn_item_laws.proofs.laws.joins_are_those_of_returns.Goals as goal

pub returns : goal.returns
returns c = turn_joins
