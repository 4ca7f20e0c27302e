use Rattle.std.proofs.Common.{Some, None, lit<}
use Rattle.std.proofs.lemmas.Str.Pattern.{split_parts}
use Rattle.schedule.proofs.Colons.{changes_are_cut, changes_have_colon}
use Rattle.schedule.proofs.Texts.{lacks}
use Rattle.schedule.proofs.ranked.written_changes.Goals as goal

pub returns-in_err-first : goal.returns-in_err-first
returns-in_err-first c =
    rw c.from_residual.ensures
    (λ depth turns. changes_have_colon c.args.text.now depth turns (lacks 58 c.args.text.now (split_parts 58 c.args.text.now None c.in_err-first.ensures.cases (lit< tt))))

pub returns-in_err-depth : goal.returns-in_err-depth
returns-in_err-depth c =
    let parts = split_parts 58 c.args.text.now (Some (c.in_ok-first.first, c.in_ok-first.second)) c.in_ok-first.ensures.cases (lit< tt) in
    rw c.from_residual-in_err-depth.ensures
    (λ depth turns written. c.in_err-depth.ensures depth (changes_are_cut c.args.text.now c.in_ok-first.first.now c.in_ok-first.second.now depth turns parts.0 (lacks 58 c.in_ok-first.first.now parts.1) written).0)

pub returns-in_err-turns : goal.returns-in_err-turns
returns-in_err-turns c =
    let parts = split_parts 58 c.args.text.now (Some (c.in_ok-first.first, c.in_ok-first.second)) c.in_ok-first.ensures.cases (lit< tt) in
    rw c.from_residual-in_err-turns.ensures
    (λ depth turns written. c.in_err-turns.ensures turns (changes_are_cut c.args.text.now c.in_ok-first.first.now c.in_ok-first.second.now depth turns parts.0 (lacks 58 c.in_ok-first.first.now parts.1) written).1)
