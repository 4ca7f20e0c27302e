use Rattle.std.proofs.Common.{◌≡◌, ◌+◌}
use Rattle.jvms_file.specs.Code.{with_zeros}
use Rattle.insn.proofs.pads.zero.Given as goal

abbrev pub invariant-loop-left : goal.invariant-loop-left
invariant-loop-left l = (with_zeros l.left l.at l.bytes ≡ with_zeros l.fn.count l.fn.place l.fn.bytes) × (l.at + l.left ≡ l.fn.place + l.fn.count)

abbrev pub decreases-loop-left : goal.decreases-loop-left
decreases-loop-left l = l.left
