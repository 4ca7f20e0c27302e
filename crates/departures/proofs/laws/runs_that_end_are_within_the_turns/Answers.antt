use Rattle.departures.specs.Reductions.{held_by, seen_by}
use Rattle.departures.proofs.Within.{runs_within}
use Rattle.departures.proofs.laws.runs_that_end_are_within_the_turns.Goals as goal

pub returns : goal.returns
returns g c = λ system is_local events view likeness state_of laws turns s last most holds good choices run stuck few. runs_within system is_local events (seen_by view) likeness (held_by state_of) laws turns s last most holds good choices run stuck few
