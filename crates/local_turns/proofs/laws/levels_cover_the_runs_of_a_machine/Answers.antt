use Rattle.std.proofs.Common.{false, ◌≡◌}
use Rattle.local_turns.proofs.Covered.{judged}
use Rattle.local_turns.proofs.laws.levels_cover_the_runs_of_a_machine.Goals as goal

pub returns : goal.returns
returns c = λ program limits start is are starts lines report turns s last most sound good choices run stuck within few. judged program limits start is are starts lines (λ s trace. report s trace ≡ false) turns s last most sound good choices run stuck within few
