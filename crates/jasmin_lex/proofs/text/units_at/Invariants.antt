use Rattle.std.proofs.Common.{◌≡◌, ◌+◌, ◌≤◌, length}
use Rattle.jasmin.specs.Lexing.{units_from}
use Rattle.jasmin_lex.proofs.Loops.{units_still}
use Rattle.jasmin_lex.proofs.text.units_at.Given as goal

abbrev pub invariant-loop-unit : goal.invariant-loop-unit
invariant-loop-unit l = record {
  completes : units_still (length l.units) l.text l.rest ≡ units_from (length l.units) l.units;
  fits : length l.text + length l.rest ≤ length l.units;
}

abbrev pub decreases-loop-unit : goal.decreases-loop-unit
decreases-loop-unit l = length l.rest
