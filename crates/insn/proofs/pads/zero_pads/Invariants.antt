use Rattle.std.proofs.Common.{◌≡◌, length}
use Rattle.jvms_file.specs.Code.{with_zero_pads}
use Rattle.insn.proofs.pads.zero_pads.Given as goal

abbrev pub invariant-loop-pcs : goal.invariant-loop-pcs
invariant-loop-pcs l = with_zero_pads l.pcs l.rest l.bytes ≡ with_zero_pads l.fn.starts l.fn.insns l.fn.bytes

abbrev pub decreases-loop-pcs : goal.decreases-loop-pcs
decreases-loop-pcs l = length l.pcs
