use Rattle.std.proofs.Common.{◌≡◌, ◌<◌, ◌^◌, length}
use Rattle.jasmin.specs.Numerals.{digits_after}
use Rattle.jasmin_operands.proofs.numerals.digits.Given as goal

abbrev pub invariant-loop-rest : goal.invariant-loop-rest
invariant-loop-rest l = record {
  completes : digits_after l.radix l.number l.rest ≡ digits_after l.radix 0 l.units;
  fits : l.number < 2 ^ 64;
}

abbrev pub decreases-loop-rest : goal.decreases-loop-rest
decreases-loop-rest l = length l.rest
