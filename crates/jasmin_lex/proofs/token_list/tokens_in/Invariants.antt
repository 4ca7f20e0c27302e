use Rattle.std.proofs.Common.{◌≡◌, ◌+◌, ◌≤◌, false, length}
use Rattle.jasmin.specs.Lexing.{tokens_of}
use Rattle.jasmin.proofs.Tokens.{begins_space}
use Rattle.jasmin_lex.proofs.Loops.{tokens_still}
use Rattle.jasmin_lex.proofs.token_list.tokens_in.Given as goal

abbrev pub invariant-loop-rest : goal.invariant-loop-rest
invariant-loop-rest l = record {
  completes : tokens_still (length l.line) l.tokens.items l.rest ≡ tokens_of l.line;
  fits : length l.tokens.items + length l.rest ≤ length l.line;
  apart : begins_space l.rest ≡ false;
}

abbrev pub decreases-loop-rest : goal.decreases-loop-rest
decreases-loop-rest l = length l.rest
