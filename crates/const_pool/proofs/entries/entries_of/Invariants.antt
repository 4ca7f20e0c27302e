use Rattle.std.proofs.Common.{◌≡◌}
use Rattle.jvms_file.specs.ConstantPool.{entries_at}
use Rattle.jvms_file.proofs.FrontLaws.{with_front}
use Rattle.const_pool.proofs.entries.entries_of.Given as goal

abbrev pub invariant-loop-left : goal.invariant-loop-left
invariant-loop-left l = with_front l.entries (entries_at l.cut l.left l.rest) ≡ entries_at l.fn.cut l.fn.count l.fn.bytes

abbrev pub decreases-loop-left : goal.decreases-loop-left
decreases-loop-left l = l.left
