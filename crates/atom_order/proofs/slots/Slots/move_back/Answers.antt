-- The transaction is live.
use Rattle.atom_order.proofs.slots.Slots.move_back.Goals as goal

pub returns-in-Some-clause-live : goal.returns-in-Some-clause-live
returns-in-Some-clause-live c = c.move_back_at.ensures.live c.args.transaction c.in-Some.ensures.rank
