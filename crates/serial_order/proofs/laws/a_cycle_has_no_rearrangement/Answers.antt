use Rattle.serial_order.proofs.Ranks.{cycle_has_no_rearrangement}
use Rattle.serial_order.proofs.laws.a_cycle_has_no_rearrangement.Goals as goal

pub returns : goal.returns
returns c = cycle_has_no_rearrangement
