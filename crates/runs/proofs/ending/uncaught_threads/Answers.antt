-- One more thread is inspected.
use Rattle.std.proofs.Common.{arith}
use Rattle.runs.proofs.UncaughtLaws.{one_more}
use Rattle.runs.proofs.ending.uncaught_threads.Goals as goal

pub loop-t-preserved : goal.loop-t-preserved
loop-t-preserved c =
    (c.loop-t.invariant.0, one_more c.args.machine.now _ _ _ c.loop-t.t (omega arith) c.in_ok-push_uncaught.ensures c.loop-t.invariant.1)
