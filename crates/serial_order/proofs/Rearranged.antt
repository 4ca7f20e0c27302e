-- In a rearrangement of a trace each read has its write.
use Rattle.std.proofs.Common.{◌≡◌, ℕ, List}
use Rattle.jvms_machine.specs.declared.trace.Item.{Item}
use Rattle.velodrome.specs.Cycles.{IsIn}
use Rattle.velodrome.specs.Rearrangements.{IsRearrangement, IsSerial}
use Rattle.velodrome.specs.Specification.{Specification}
use Rattle.velodrome.specs.Transactions.{Event, trace_state_of}
use Rattle.serial_order.proofs.Members.{all_in}
use Rattle.serial_order.proofs.Ranks.{stands_in}
use Rattle.serial_order.proofs.TraceStates.{IsCounted, numbered_keep, one_of_number, trace_state_counted}
use Rattle.serial_order.proofs.Writes.{reads_the_same}

pub rearrangement_is_serial : (lines : Specification) (items : List Item) (numbers : List ℕ) → IsRearrangement (trace_state_of lines items).events numbers → IsSerial (trace_state_of lines items).events numbers
rearrangement_is_serial lines items numbers r = (r.1, r.2, r.3, r.0, r.4, r.5, reads_the_same (trace_state_of lines items).events r.1 one (numbered_keep 1 (trace_state_of lines items).events counted.numbered) r.4 (λ f. stands_in lines items numbers r f) (λ f in_serial. all_in (λ g. IsIn g (trace_state_of lines items).events) r.1 f r.3 in_serial))
  where
    counted : IsCounted (trace_state_of lines items)
    counted = trace_state_counted lines items

    one : (f g : Event) → IsIn f (trace_state_of lines items).events → IsIn g (trace_state_of lines items).events → f.number ≡ g.number → f ≡ g
    one f g in_f in_g same = one_of_number 1 (trace_state_of lines items).events f g counted.numbered in_f in_g same
