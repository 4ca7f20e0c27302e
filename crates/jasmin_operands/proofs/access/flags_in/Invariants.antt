use Rattle.std.proofs.Common.{◌≡◌, drop}
use Rattle.jasmin.specs.Lexing.{lexemes}
use Rattle.jasmin.specs.Operands.{flags_with}
use Rattle.jasmin_operands.specs.Views.{words_of}
use Rattle.jasmin_operands.proofs.access.flags_in.Given as goal

abbrev pub invariant-loop-token : goal.invariant-loop-token
invariant-loop-token l =
    flags_with (words_of l.words) l.flags (lexemes (drop l.token-index l.tokens)) ≡ flags_with (words_of l.words) 0 (lexemes l.tokens)
