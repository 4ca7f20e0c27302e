use Rattle.std.proofs.Common.{◌≡◌, length}
use Rattle.class_tree.specs.Marks.{with_marks}
use Rattle.class_tree.proofs.marks.mark_all.Given as goal

abbrev pub invariant-loop-rest : goal.invariant-loop-rest
invariant-loop-rest l = with_marks l.rest l.marks ≡ with_marks l.fn.places l.fn.marks

abbrev pub decreases-loop-rest : goal.decreases-loop-rest
decreases-loop-rest l = length l.rest
