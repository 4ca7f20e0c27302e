-- The turns that were taken are among those for which the thread is next.
use Rattle.std.proofs.Common.{arith, ◌≤◌}
use Rattle.runs.proofs.TurnsOn.{none_on, fewer_on}
use Rattle.runs.proofs.turn.take_consecutive_turns.Goals as goal

pub returns-in_default-clause-taken : goal.returns-in_default-clause-taken
returns-in_default-clause-taken c = none_on c.args.machine.now c.args.chooser.now c.args.recording.now 0

pub returns-then-turns-eq1-clause-taken : goal.returns-then-turns-eq1-clause-taken
returns-then-turns-eq1-clause-taken c = none_on c.args.machine.now c.args.chooser.now c.args.recording.now _

pub returns-clause-taken : goal.returns-clause-taken
returns-clause-taken c =
    let most = c.step_consecutive-times.ensures.most in
    let least = c.min.ensures in
    let few : c.step_consecutive-times.result ≤ c.in-Some.field-0.turns = omega (arith, most, least) in
    fewer_on _ _ _ _ _ _ _ _ _ c.step_consecutive-times.ensures.ran few c.in-Some.ensures.next c.count.ensures
