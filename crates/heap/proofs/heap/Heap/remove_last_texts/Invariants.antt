use Rattle.heap.proofs.TextLaws.{AreLeft}
use Rattle.heap.proofs.heap.Heap.remove_last_texts.Given as goal

-- the strings that are left
abbrev pub invariant-loop-left : goal.invariant-loop-left
invariant-loop-left l = AreLeft l.fn.self l.self l.left l.count

abbrev pub decreases-loop-left : goal.decreases-loop-left
decreases-loop-left l = l.left
