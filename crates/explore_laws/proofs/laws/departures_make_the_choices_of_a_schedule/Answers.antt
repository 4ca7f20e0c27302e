use Rattle.explore_laws.proofs.Named.{follows}
use Rattle.explore_laws.proofs.laws.departures_make_the_choices_of_a_schedule.Goals as goal

pub returns : goal.returns
returns c = λ m turns choices is. follows m turns choices 0 m.state 0 is
