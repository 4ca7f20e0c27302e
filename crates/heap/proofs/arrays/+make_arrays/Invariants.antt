use Rattle.std.proofs.Common.{◌+◌, length, drop}
use Rattle.heap.proofs.ArrayLaws.{PartsMade}
use Rattle.heap.proofs.arrays.+make_arrays.Given as goal

abbrev pub decreases-make_arrays : goal.decreases-make_arrays
decreases-make_arrays l = length l.rest.now

-- the parts so far
abbrev pub invariant-loop-part : goal.invariant-loop-part
invariant-loop-part l = PartsMade l.initial.made.items l.made.items (drop 1 l.class) l.rest (l.reference + 1) l.size l.part l.next
