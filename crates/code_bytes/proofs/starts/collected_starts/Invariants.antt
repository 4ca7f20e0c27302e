-- The starts so far, followed by the remaining ones, are all.
use Rattle.std.proofs.Common.{◌≡◌, ◌≤◌, [], length}
use Rattle.jasmin.specs.Denote.{operations}
use Rattle.code_bytes.specs.Starting.{starts_onto}
use Rattle.code_bytes.proofs.starts.collected_starts.Given as goal

abbrev pub invariant-loop-number : goal.invariant-loop-number
invariant-loop-number l = record {
  same : starts_onto l.starts l.pc l.numbers (operations l.rest) ≡ starts_onto [] 0 l.operands (operations l.items);
  few : l.pc ≤ 65535;
}

abbrev pub decreases-loop-number : goal.decreases-loop-number
decreases-loop-number l = length l.numbers
