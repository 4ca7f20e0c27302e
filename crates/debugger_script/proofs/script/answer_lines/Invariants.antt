-- The bytes so far have been read and processed.
use Rattle.std.proofs.Common.{◌≡◌}
use Rattle.debugger_script.specs.Taken.{IsUnderWay}
use Rattle.debugger_script.proofs.script.answer_lines.Given as goal

abbrev pub invariant-loop : goal.invariant-loop
invariant-loop g l = record {
  taken : IsUnderWay (g.R.ByteIn.left l.fn.input) (g.R.ByteIn.left l.input) l.line.items (g.W.ByteOut.written l.fn.output) (g.W.ByteOut.written l.output) l.fn.session l.session;
  reads : g.R.ByteIn.failures l.input ≡ g.R.ByteIn.failures l.fn.input;
  writes : g.W.ByteOut.failures l.output ≡ g.W.ByteOut.failures l.fn.output;
}
