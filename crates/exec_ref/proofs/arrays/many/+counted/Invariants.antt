use Rattle.std.proofs.Common.{length}
use Rattle.exec_ref.proofs.arrays.many.+counted.Given as goal

abbrev pub decreases-counted : goal.decreases-counted
decreases-counted l = length l.lengths.now
