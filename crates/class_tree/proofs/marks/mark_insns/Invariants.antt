use Rattle.std.proofs.Common.{◌≡◌, length}
use Rattle.class_tree.specs.Marks.{with_insn_marks}
use Rattle.class_tree.proofs.marks.mark_insns.Given as goal

abbrev pub invariant-loop-rest : goal.invariant-loop-rest
invariant-loop-rest l = with_insn_marks l.rest l.marks ≡ with_insn_marks l.fn.insns l.fn.marks

abbrev pub decreases-loop-rest : goal.decreases-loop-rest
decreases-loop-rest l = length l.rest
