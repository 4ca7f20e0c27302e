use Rattle.linker.proofs.SetLaws.{none_marked}
use Rattle.linker.proofs.number_set.NumberSet.new.Goals as goal

pub invariant_of-result : goal.invariant_of-result
invariant_of-result c = rw c.new.ensures.items (none_marked c.in_ok-vec.field-0.items c.in_ok-vec.ensures.items)
