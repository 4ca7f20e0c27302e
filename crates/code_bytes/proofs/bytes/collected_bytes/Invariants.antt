-- The bytes so far, followed by the remaining ones, are all.
use Rattle.std.proofs.Common.{◌≡◌, [], length}
use Rattle.jasmin.specs.Denote.{operations}
use Rattle.code_bytes.specs.Few.{AreFew}
use Rattle.code_bytes.specs.Writing.{bytes_onto}
use Rattle.code_bytes.proofs.bytes.collected_bytes.Given as goal

abbrev pub invariant-loop-number : goal.invariant-loop-number
invariant-loop-number l = record {
  same : bytes_onto l.starts l.labels l.bytes.items l.numbers l.pcs (operations l.rest) ≡ bytes_onto l.starts l.labels [] l.operands l.starts (operations l.items);
  few : AreFew (operations l.rest);
}

abbrev pub decreases-loop-number : goal.decreases-loop-number
decreases-loop-number l = length l.numbers
