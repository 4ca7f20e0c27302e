use Rattle.std.proofs.Common.{◌≡◌, ◌+◌, ◌<◌, suc, ◌∙◌, length, arith}
use Rattle.jasmin_operands.specs.Views.{words_of}
use Rattle.jasmin_operands.proofs.AccessFlags.{one_more}
use Rattle.jasmin_operands.proofs.access.access_words.Goals as goal

pub loop-token-preserved : goal.loop-token-preserved
loop-token-preserved c =
    let i = c.loop-token.token-index in
    let tokens = c.args.tokens.now in
    let within : i < length tokens = omega arith in
    let next : i + 1 ≡ suc i = omega arith in
    rw (c.with_flag-before.ensures, c.unless-judged.ensures, c.access_word.ensures, next)
    (one_more (words_of c.args.words) c.loop-token.before c.loop-token.judged i tokens c.token-item.result within c.token-item.is ∙ c.loop-token.invariant)
