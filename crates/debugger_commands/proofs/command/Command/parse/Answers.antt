use Rattle.std.proofs.Common.{[], ◌∷◌, Some, None, ◌∙◌, ap, sym, lit<}
use Rattle.std.proofs.lemmas.Str.Pattern.{split_parts}
use Rattle.debugger_commands.specs.Readings.{words_of}
use Rattle.debugger_commands.proofs.Reading.{one_word, first_word, line_read}
use Rattle.debugger_commands.proofs.command.Command.parse.Goals as goal

pub returns-in_default-split_once : goal.returns-in_default-split_once
returns-in_default-split_once c =
    let words = one_word c.in-Ok.text.now (split_parts 32 c.in-Ok.text.now None c.in_default-split_once.ensures.cases (lit< tt)) in
    line_read c.args.line.now (c.in-Ok.text.now ∷ []) c.alone.result c.in-Ok.ensures.cases.1 (ap words_of (sym c.in-Ok.ensures.cases.0) ∙ words) c.alone.ensures

pub returns-in-None : goal.returns-in-None
returns-in-None c =
    let first = first_word c.in-Ok.text.now c.in-Some.name.now c.in-Some.words.now (split_parts 32 c.in-Ok.text.now (Some (c.in-Some.name, c.in-Some.words)) c.in-Some.ensures.cases (lit< tt)) in
    let second = one_word c.in-Some.words.now (split_parts 32 c.in-Some.words.now None c.in-None.ensures.cases (lit< tt)) in
    line_read c.args.line.now (c.in-Some.name.now ∷ c.in-Some.words.now ∷ []) c.with_one_word.result c.in-Ok.ensures.cases.1
    (ap words_of (sym c.in-Ok.ensures.cases.0) ∙ first ∙ ap (λ ws. c.in-Some.name.now ∷ ws) second) c.with_one_word.ensures

pub returns-in-Some-split_once : goal.returns-in-Some-split_once
returns-in-Some-split_once c =
    let first = first_word c.in-Ok.text.now c.in-Some.name.now c.in-Some.words.now (split_parts 32 c.in-Ok.text.now (Some (c.in-Some.name, c.in-Some.words)) c.in-Some.ensures.cases (lit< tt)) in
    let second = first_word c.in-Some.words.now c.in-Some-split_once.first.now c.in-Some-split_once.second.now (split_parts 32 c.in-Some.words.now (Some (c.in-Some-split_once.first, c.in-Some-split_once.second)) c.in-Some-split_once.ensures.cases (lit< tt)) in
    line_read c.args.line.now (c.in-Some.name.now ∷ c.in-Some-split_once.first.now ∷ words_of c.in-Some-split_once.second.now) c.with_two_words.result c.in-Ok.ensures.cases.1
    (ap words_of (sym c.in-Ok.ensures.cases.0) ∙ first ∙ ap (λ ws. c.in-Some.name.now ∷ ws) second) c.with_two_words.ensures
