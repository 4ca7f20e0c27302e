use Rattle.std.proofs.Common.{arith, take}
use Rattle.debugger_script.specs.Taken.{MayBeRefused}
use Rattle.debugger_script.proofs.Reading.{cut_before_rest, cut_within, more_read}
use Rattle.debugger_script.proofs.script.answer_lines.Goals as goal

pub returns-in-Err-clause-cut : goal.returns-in-Err-clause-cut
returns-in-Err-clause-cut g c = λ other.
    cut_within (MayBeRefused c.in-Err.fault) (g.R.ByteIn.left c.args.input.now) (g.R.ByteIn.left c.loop.input) (g.R.ByteIn.left c.read_some.new.input)
    c.loop.line.items (take c.in_ok-count.count c.read_some.new.buffer)
    (g.W.ByteOut.written c.args.output.now) (g.W.ByteOut.written c.loop.output) (g.W.ByteOut.written c.take_bytes.new.output)
    c.args.session.now c.loop.session c.take_bytes.new.session
    c.loop.invariant.taken c.in_ok-count.ensures.bytes c.in-Err.ensures.cut

pub loop-preserved : goal.loop-preserved
loop-preserved g c = record {
  taken =
      more_read (g.R.ByteIn.left c.args.input.now) (g.R.ByteIn.left c.loop.input) (g.R.ByteIn.left c.read_some.new.input)
      c.loop.line.items (take c.in_ok-count.count c.read_some.new.buffer) c.take_bytes.new.line.items
      (g.W.ByteOut.written c.args.output.now) (g.W.ByteOut.written c.loop.output) (g.W.ByteOut.written c.take_bytes.new.output)
      c.args.session.now c.loop.session c.take_bytes.new.session
      c.loop.invariant.taken c.in_ok-count.ensures.bytes c.in-Ok.ensures.taken;
  reads = omega (arith, c.in_ok-count.ensures.reads);
  writes = omega (arith, c.in-Ok.ensures.writes);
}

pub returns-clause-cut : goal.returns-clause-cut
returns-clause-cut g c = λ other. cut_before_rest
    (g.R.ByteIn.left c.args.input.now) (g.R.ByteIn.left c.loop.input) c.loop.line.items
    (g.W.ByteOut.written c.args.output.now) (g.W.ByteOut.written c.loop.output) c.args.session.now c.loop.session c.loop.invariant.taken
