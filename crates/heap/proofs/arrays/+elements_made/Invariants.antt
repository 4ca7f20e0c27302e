use Rattle.std.proofs.Common.{length}
use Rattle.heap.proofs.arrays.+elements_made.Given as goal

abbrev pub decreases-elements_made : goal.decreases-elements_made
decreases-elements_made l = length l.lengths.now
