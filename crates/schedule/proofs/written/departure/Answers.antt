use Rattle.std.proofs.Common.{Some, None, lit<}
use Rattle.std.proofs.lemmas.Str.Pattern.{split_parts}
use Rattle.schedule.proofs.Texts.{lacks}
use Rattle.schedule.proofs.Departures.{departure_is_cut, departure_has_sign}
use Rattle.schedule.proofs.written.departure.Goals as goal

pub returns-in_err-position : goal.returns-in_err-position
returns-in_err-position c =
    rw c.from_residual.ensures
    (λ d. departure_has_sign c.args.text.now d (lacks 61 c.args.text.now (split_parts 61 c.args.text.now None c.in_err-position.ensures.cases (lit< tt))))

pub returns-in_err-long_number : goal.returns-in_err-long_number
returns-in_err-long_number c =
    let parts = split_parts 61 c.args.text.now (Some (c.in_ok-position.position, c.in_ok-position.thread)) c.in_ok-position.ensures.cases (lit< tt) in
    rw c.from_residual-in_err-long_number.ensures
    (λ d written.
    let numbers = departure_is_cut c.args.text.now c.in_ok-position.position.now c.in_ok-position.thread.now d parts.0 (lacks 61 c.in_ok-position.position.now parts.1) written in
    c.in_err-long_number.ensures (numbers.0.0.0, rw numbers.0.0.1 numbers.0.1))

pub returns-in_err-thread_number : goal.returns-in_err-thread_number
returns-in_err-thread_number c =
    let parts = split_parts 61 c.args.text.now (Some (c.in_ok-position.position, c.in_ok-position.thread)) c.in_ok-position.ensures.cases (lit< tt) in
    rw c.from_residual-in_err-thread_number.ensures
    (λ d written.
    let numbers = departure_is_cut c.args.text.now c.in_ok-position.position.now c.in_ok-position.thread.now d parts.0 (lacks 61 c.in_ok-position.position.now parts.1) written in
    c.in_err-thread_number.ensures d.thread numbers.1)
