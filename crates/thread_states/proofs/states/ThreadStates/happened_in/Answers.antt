use Rattle.thread_states.proofs.Positions.{unchanged}
use Rattle.thread_states.proofs.states.ThreadStates.happened_in.Goals as goal

pub returns-then-stays-clause-state : goal.returns-then-stays-clause-state
returns-then-stays-clause-state c =
    unchanged c.args.position c.args.transaction c.args.thread c.args.self.now.lines c.args.self.now.table c.requires.position (c.stays.ensures c.if-stays.true) c.requires.transaction
