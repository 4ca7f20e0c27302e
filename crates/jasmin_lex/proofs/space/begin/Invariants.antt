use Rattle.std.proofs.Common.{◌≡◌, length}
use Rattle.jasmin.specs.Lexing.{begin_from}
use Rattle.jasmin_lex.proofs.space.begin.Given as goal

abbrev pub invariant-loop-rest : goal.invariant-loop-rest
invariant-loop-rest l = begin_from l.may_comment l.rest ≡ begin_from l.fn.may_comment l.fn.units

abbrev pub decreases-loop-rest : goal.decreases-loop-rest
decreases-loop-rest l = length l.rest
