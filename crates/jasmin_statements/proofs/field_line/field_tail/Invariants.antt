use Rattle.std.proofs.Common.{◌≡◌, length}
use Rattle.jasmin.specs.Lexing.{lexemes}
use Rattle.jasmin.specs.Statements.{field_tail}
use Rattle.jasmin_statements.proofs.field_line.field_tail.Given as goal

abbrev pub invariant-loop-rest : goal.invariant-loop-rest
invariant-loop-rest l = field_tail (lexemes l.rest) ≡ field_tail (lexemes l.tokens)

abbrev pub decreases-loop-rest : goal.decreases-loop-rest
decreases-loop-rest l = length l.rest
