use Rattle.serial_order.proofs.Spans.{one_stay}
use Rattle.serial_order.proofs.transactions.a_transaction_is_one_stay_in_atomic_methods.Goals as goal

pub returns : goal.returns
returns c = λ lines before between after i j e f i_is j_is in_e in_f e_is f_is. one_stay lines before between after i j i_is j_is e f in_e in_f e_is f_is
