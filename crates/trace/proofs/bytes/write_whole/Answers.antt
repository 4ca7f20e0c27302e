-- The next write begins after the bytes that were written.
use Rattle.trace.proofs.Writing.{appended_more, appended_no_more, within}
use Rattle.trace.proofs.bytes.write_whole.Goals as goal
use Rattle.trace.proofs.bytes.write_whole.Goals.{in-Ok, in-Err+else-ne}

pub loop-preserved : goal.loop-preserved
loop-preserved g c = elim c.match-write.branch [
  | in-Ok w ↦ rw w.at-is (
    within c.loop.at w.in-Ok.count c.args.bytes.now c.loop.invariant.0 w.in-Ok.ensures.bound,
    appended_more (g.W.Write.contents c.args.writer.now) (g.W.Write.contents c.loop.writer) (g.W.Write.contents c.write.new.self) c.loop.at w.in-Ok.count c.args.bytes.now c.loop.invariant.1 w.in-Ok.ensures.bytes,
  )
  | in-Err+else-ne w ↦ rw w.at-is (
    c.loop.invariant.0,
    appended_no_more (g.W.Write.contents c.args.writer.now) (g.W.Write.contents c.loop.writer) (g.W.Write.contents c.write.new.self) _ c.loop.invariant.1 w.in-Err.ensures.bytes,
  )
]
