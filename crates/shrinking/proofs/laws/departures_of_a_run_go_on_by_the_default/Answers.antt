use Rattle.std.proofs.Common.{List, ℕ}
use Rattle.shrinking.proofs.Further.{goes_on}
use Rattle.shrinking.proofs.laws.departures_of_a_run_go_on_by_the_default.Goals as goal

pub returns : goal.returns
returns c = λ m turns choices run less.
    goes_on m turns choices run less (λ whole is. c.departures_make_the_choices_of_a_schedule.ensures m turns whole is)
