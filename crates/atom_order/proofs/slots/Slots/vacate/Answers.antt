-- The transaction is live, or nothing changes.
use Rattle.atom_order.specs.Slots.{numbers_of, live_of}
use Rattle.atom_order.proofs.Vacated.{without_other}
use Rattle.atom_order.proofs.slots.Slots.vacate.Goals as goal

pub returns-in-Some-clause-live : goal.returns-in-Some-clause-live
returns-in-Some-clause-live c = c.vacate_at.ensures.live c.args.transaction c.in-Some.ensures.rank

pub returns-in-None-clause-live : goal.returns-in-None-clause-live
returns-in-None-clause-live c = without_other (live_of (numbers_of c.args.self.now.slots)) c.args.transaction c.in-None.ensures.rank
