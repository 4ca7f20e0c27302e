use Rattle.needs.proofs.OutsideLaws.{turn_stops}
use Rattle.needs.proofs.laws.a_turn_outside_of_the_profile_stops.Goals as goal

pub returns : goal.returns
returns c = turn_stops
