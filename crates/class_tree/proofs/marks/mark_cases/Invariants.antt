use Rattle.std.proofs.Common.{◌≡◌, length, map}
use Rattle.jvms_file.specs.declared.insn.SwitchCase.{SwitchCase}
use Rattle.class_tree.specs.Marks.{with_marks}
use Rattle.class_tree.proofs.marks.mark_cases.Given as goal

abbrev pub invariant-loop-rest : goal.invariant-loop-rest
invariant-loop-rest l = with_marks (map (λ (c : SwitchCase). c.target) l.rest) l.marks ≡ with_marks (map (λ (c : SwitchCase). c.target) l.fn.cases) l.fn.marks

abbrev pub decreases-loop-rest : goal.decreases-loop-rest
decreases-loop-rest l = length l.rest
