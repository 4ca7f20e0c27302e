use Rattle.heap.proofs.ChainLaws.{HasPut}
use Rattle.heap.proofs.first_values.push_values.Given as goal

-- the values of the fields from here on
abbrev pub invariant-loop-left : goal.invariant-loop-left
invariant-loop-left l = HasPut l.fields l.initial.values.items l.values.items l.left

abbrev pub decreases-loop-left : goal.decreases-loop-left
decreases-loop-left l = l.left
