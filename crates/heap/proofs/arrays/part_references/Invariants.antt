use Rattle.heap.proofs.ArrayLaws.{HasParts}
use Rattle.heap.proofs.arrays.part_references.Given as goal

abbrev pub invariant-loop-part : goal.invariant-loop-part
invariant-loop-part l = HasParts l.first l.size l.part l.next l.references.items
