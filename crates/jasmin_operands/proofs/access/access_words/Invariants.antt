use Rattle.std.proofs.Common.{◌≡◌, drop}
use Rattle.jasmin.specs.Lexing.{lexemes}
use Rattle.jasmin.specs.Judgements.{unless}
use Rattle.jasmin.specs.Operands.{access_words, access_words_after}
use Rattle.jasmin_operands.specs.Views.{words_of}
use Rattle.jasmin_operands.proofs.access.access_words.Given as goal

abbrev pub invariant-loop-token : goal.invariant-loop-token
invariant-loop-token l =
    unless l.judged (access_words_after (words_of l.words) l.before (lexemes (drop l.token-index l.tokens)))
    ≡ access_words (words_of l.words) (lexemes l.tokens)
