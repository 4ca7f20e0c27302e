use Rattle.std.proofs.Common.{arith}
use Rattle.classes.proofs.PersistentArrayLaws.{enough}
use Rattle.classes.proofs.persistent_arrays.levels_for.Goals as goal

pub loop-left-preserved : goal.loop-left-preserved
loop-left-preserved c = (enough c.args.count c.loop-left.left c.loop-left.levels c.loop-left.invariant.0, omega arith)
