use Rattle.std.proofs.Common.{length}
use Rattle.heap.proofs.arrays.+arrays_made.Given as goal

abbrev pub decreases-arrays_made : goal.decreases-arrays_made
decreases-arrays_made l = length l.lengths.now
