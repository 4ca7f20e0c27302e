use Rattle.heap.proofs.TextLaws.{AreMade}
use Rattle.heap.proofs.heap.Heap.new_texts.Given as goal

-- the strings so far
abbrev pub invariant-loop-made : goal.invariant-loop-made
invariant-loop-made l = AreMade l.fn.self l.self l.texts l.made
