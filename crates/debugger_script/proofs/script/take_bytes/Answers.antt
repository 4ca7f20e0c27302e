use Rattle.std.proofs.Common.{arith}
use Rattle.debugger_script.specs.Taken.{MayBeRefused}
use Rattle.debugger_script.proofs.Taking.{cut_at_next, taken_next}
use Rattle.debugger_script.proofs.script.take_bytes.Goals as goal

pub returns-in-Err-clause-cut : goal.returns-in-Err-clause-cut
returns-in-Err-clause-cut g c =
    cut_at_next (MayBeRefused c.in-Err.fault) c.args.line.now.items c.args.bytes.now c.loop-byte.line.items c.loop-byte.byte-index
    (g.W.ByteOut.written c.args.output.now) (g.W.ByteOut.written c.loop-byte.output) (g.W.ByteOut.written c.take_byte.new.output)
    c.args.session.now c.loop-byte.session c.take_byte.new.session c.loop-byte-test.true c.loop-byte.invariant.taken c.in-Err.ensures.cut

pub loop-byte-preserved : goal.loop-byte-preserved
loop-byte-preserved g c = record {
  taken =
      taken_next c.args.line.now.items c.args.bytes.now c.loop-byte.line.items c.take_byte.new.line.items c.loop-byte.byte-index
      (g.W.ByteOut.written c.args.output.now) (g.W.ByteOut.written c.loop-byte.output) (g.W.ByteOut.written c.take_byte.new.output)
      c.args.session.now c.loop-byte.session c.take_byte.new.session c.loop-byte-test.true c.loop-byte.invariant.taken c.in-Ok.ensures.taken;
  writes = omega (arith, c.in-Ok.ensures.writes);
}
