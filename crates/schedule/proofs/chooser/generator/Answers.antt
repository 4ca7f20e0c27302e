use Rattle.std.proofs.Common.{Some, None, lit<}
use Rattle.std.proofs.lemmas.Str.Pattern.{split_parts}
use Rattle.schedule.proofs.Texts.{lacks}
use Rattle.schedule.proofs.Spelling.{seed_is_cut, seed_has_colon}
use Rattle.schedule.proofs.chooser.generator.Goals as goal

pub returns-in_err-state : goal.returns-in_err-state
returns-in_err-state c =
    rw c.from_residual.ensures
    (λ state stream. seed_has_colon c.args.text.now state stream (lacks 58 c.args.text.now (split_parts 58 c.args.text.now None c.in_err-state.ensures.cases (lit< tt))))

pub returns-in_err-long_number : goal.returns-in_err-long_number
returns-in_err-long_number c =
    let parts = split_parts 58 c.args.text.now (Some (c.in_ok-state.state, c.in_ok-state.stream)) c.in_ok-state.ensures.cases (lit< tt) in
    rw c.from_residual-in_err-long_number.ensures
    (λ state stream written.
    let numbers = seed_is_cut c.args.text.now c.in_ok-state.state.now c.in_ok-state.stream.now state stream parts.0 (lacks 58 c.in_ok-state.state.now parts.1) written in
    c.in_err-long_number.ensures (numbers.0.0.0, rw numbers.0.0.1 numbers.0.1))

pub returns-in_err-long_number-2 : goal.returns-in_err-long_number-2
returns-in_err-long_number-2 c =
    let parts = split_parts 58 c.args.text.now (Some (c.in_ok-state.state, c.in_ok-state.stream)) c.in_ok-state.ensures.cases (lit< tt) in
    rw c.from_residual-in_err-long_number-2.ensures
    (λ state stream written.
    let numbers = seed_is_cut c.args.text.now c.in_ok-state.state.now c.in_ok-state.stream.now state stream parts.0 (lacks 58 c.in_ok-state.state.now parts.1) written in
    c.in_err-long_number-2.ensures (numbers.1.0.0, rw numbers.1.0.1 numbers.1.1))
