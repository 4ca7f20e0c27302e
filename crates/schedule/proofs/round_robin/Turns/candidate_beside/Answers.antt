use Rattle.schedule.proofs.Beside.{choice_may}
use Rattle.schedule.proofs.round_robin.Turns.candidate_beside.Goals as goal

-- The predicted thread isn't idle.
pub returns-clause-beside : goal.returns-clause-beside
returns-clause-beside c =
    let turns = c.args.self.now in
    choice_may c.args.idle.now c.args.count turns.quantum turns.thread turns.turns c.choice.result c.choice.ensures
