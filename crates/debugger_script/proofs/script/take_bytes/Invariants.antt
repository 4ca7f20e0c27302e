-- The bytes so far have been processed.
use Rattle.std.proofs.Common.{◌≡◌, take}
use Rattle.debugger_script.specs.Taken.{HasTaken}
use Rattle.debugger_script.proofs.script.take_bytes.Given as goal

abbrev pub invariant-loop-byte : goal.invariant-loop-byte
invariant-loop-byte g l = record {
  taken : HasTaken l.fn.line.items (take l.byte-index l.bytes) l.line.items (g.W.ByteOut.written l.fn.output) (g.W.ByteOut.written l.output) l.fn.session l.session;
  writes : g.W.ByteOut.failures l.output ≡ g.W.ByteOut.failures l.fn.output;
}
