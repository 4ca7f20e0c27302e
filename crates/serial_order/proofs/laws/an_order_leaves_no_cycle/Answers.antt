use Rattle.serial_order.proofs.Ranks.{order_leaves_no_cycle}
use Rattle.serial_order.proofs.laws.an_order_leaves_no_cycle.Goals as goal

pub returns : goal.returns
returns c = order_leaves_no_cycle
