use Rattle.atom_graph.proofs.Positions.{goes_on}
use Rattle.atom_graph.proofs.stored_trace.StoredTrace.happened.Goals as goal

pub happened_in-requires-clause-transaction : goal.happened_in-requires-clause-transaction
happened_in-requires-clause-transaction c = goes_on c.args.position.transaction c.args.transaction c.args.self.now.begun c.requires.transaction
