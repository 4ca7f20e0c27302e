use Rattle.std.proofs.Common.{◌≤◌, arith, drop}
use Rattle.schedule.proofs.Beside.{choice_may}
use Rattle.schedule.proofs.Stays.{default_beside, has_turn}
use Rattle.schedule.proofs.staying.Staying.candidate_beside.Goals as goal

pub returns-clause-next : goal.returns-clause-next
returns-clause-next c =
    let state = c.args.self.now in
    let left = drop state.place state.departures in
    let some : 1 ≤ c.default_turns.result = omega arith in
    let default = c.default_turns.ensures some in
    rw default.0
    (default_beside c.args.idle.now c.args.count state.before state.last left c.default.result (has_turn c.default_turns.result state.before left some default.1) c.default.ensures)

-- The predicted thread isn't idle.
pub returns-clause-beside : goal.returns-clause-beside
returns-clause-beside c = choice_may c.args.idle.now c.args.count 1 c.args.self.now.last 0 c.default.result c.default.ensures
