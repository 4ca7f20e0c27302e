-- The exit has an end, or it has none.
use Rattle.atom_order.proofs.Followed.{entered}
use Rattle.atom_order.proofs.linked_order.LinkedOrder.enter.Goals as goal

pub returns-in_ok-insert : goal.returns-in_ok-insert
returns-in_ok-insert c =
    entered c.args.exit c.args.from c.args.self.now c.args.left_out.now c.args.work.now.keys c.insert.new.self.keys c.in-Some.end c.in-Some.ensures.some c.in-Some.ensures.alone c.in_ok-insert.ensures.updates.0
