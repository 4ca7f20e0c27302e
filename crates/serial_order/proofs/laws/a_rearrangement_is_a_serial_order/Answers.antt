use Rattle.serial_order.proofs.Rearranged.{rearrangement_is_serial}
use Rattle.serial_order.proofs.laws.a_rearrangement_is_a_serial_order.Goals as goal

pub returns : goal.returns
returns c = rearrangement_is_serial
