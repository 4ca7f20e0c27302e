-- The digits so far spell the number so far.
use Rattle.std.proofs.Common.{◌≡◌, suc, ◌<◌, ◌^◌, take}
use Rattle.std.specs.Fmt.{decimal}
use Rattle.trace_text.proofs.number.number_of.Given as goal

abbrev pub invariant-loop-byte : goal.invariant-loop-byte
invariant-loop-byte l = (decimal l.number ≡ take (suc l.byte-index) l.text) × (l.number < 2 ^ 40)
