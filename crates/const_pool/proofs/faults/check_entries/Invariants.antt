use Rattle.std.proofs.Common.{◌≡◌, length}
use Rattle.jvms_file.specs.ConstantPool.{entries_fault}
use Rattle.const_pool.proofs.faults.check_entries.Given as goal

abbrev pub invariant-loop-rest : goal.invariant-loop-rest
invariant-loop-rest l = entries_fault l.pool l.rest ≡ entries_fault l.pool l.fn.entries

abbrev pub decreases-loop-rest : goal.decreases-loop-rest
decreases-loop-rest l = length l.rest
