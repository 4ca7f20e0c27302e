use Rattle.turn_item_laws.proofs.TurnItems.{turn_items_are_told}
use Rattle.turn_item_laws.proofs.laws.states_determine_items.Goals as goal

pub returns : goal.returns
returns c = turn_items_are_told
