use Rattle.std.proofs.Common.{Some, None, lit<, ap, sym, ◌∷◌, ◌++◌, ◌∙◌}
use Rattle.std.proofs.lemmas.Str.Pattern.{split_parts}
use Rattle.schedule.proofs.Colons.{ranking_has_colon, ranking_is_cut, rest_has_colon, rest_is_cut}
use Rattle.schedule.proofs.Texts.{lacks}
use Rattle.schedule.proofs.ranked.Ranked.parse.Goals as goal

pub returns-in_err-state : goal.returns-in_err-state
returns-in_err-state c =
    rw c.from_residual.ensures
    (λ state stream depth turns. ranking_has_colon c.args.text.now state stream depth turns (lacks 58 c.args.text.now (split_parts 58 c.args.text.now None c.in_err-state.ensures.cases (lit< tt))))

pub returns-in_err-stream : goal.returns-in_err-stream
returns-in_err-stream c =
    let parts = split_parts 58 c.args.text.now (Some (c.in_ok-state.state, c.in_ok-state.rest)) c.in_ok-state.ensures.cases (lit< tt) in
    rw c.from_residual-in_err-stream.ensures
    (λ state stream depth turns written.
    let cut = ranking_is_cut c.args.text.now c.in_ok-state.state.now c.in_ok-state.rest.now state stream depth turns parts.0 (lacks 58 c.in_ok-state.state.now parts.1) written in
    rest_has_colon c.in_ok-state.rest.now stream depth turns (lacks 58 c.in_ok-state.rest.now (split_parts 58 c.in_ok-state.rest.now None c.in_err-stream.ensures.cases (lit< tt))) cut.1)

pub returns-in_err-state-2 : goal.returns-in_err-state-2
returns-in_err-state-2 c =
    let parts = split_parts 58 c.args.text.now (Some (c.in_ok-state.state, c.in_ok-state.rest)) c.in_ok-state.ensures.cases (lit< tt) in
    rw c.from_residual-in_err-state-2.ensures
    (λ state stream depth turns written.
    let cut = ranking_is_cut c.args.text.now c.in_ok-state.state.now c.in_ok-state.rest.now state stream depth turns parts.0 (lacks 58 c.in_ok-state.state.now parts.1) written in
    c.in_err-state-2.ensures (cut.0.0.0, rw cut.0.0.1 cut.0.1))

pub returns-in_err-stream-2 : goal.returns-in_err-stream-2
returns-in_err-stream-2 c =
    let parts = split_parts 58 c.args.text.now (Some (c.in_ok-state.state, c.in_ok-state.rest)) c.in_ok-state.ensures.cases (lit< tt) in
    let more = split_parts 58 c.in_ok-state.rest.now (Some (c.in_ok-stream.stream, c.in_ok-stream.changes)) c.in_ok-stream.ensures.cases (lit< tt) in
    rw c.from_residual-in_err-stream-2.ensures
    (λ state stream depth turns written.
    let cut = ranking_is_cut c.args.text.now c.in_ok-state.state.now c.in_ok-state.rest.now state stream depth turns parts.0 (lacks 58 c.in_ok-state.state.now parts.1) written in
    let rest = rest_is_cut c.in_ok-state.rest.now c.in_ok-stream.stream.now c.in_ok-stream.changes.now stream depth turns more.0 (lacks 58 c.in_ok-stream.stream.now more.1) cut.1 in
    c.in_err-stream-2.ensures (rest.0.0.0, rw rest.0.0.1 rest.0.1))

pub returns-in_err-depth : goal.returns-in_err-depth
returns-in_err-depth c =
    let parts = split_parts 58 c.args.text.now (Some (c.in_ok-state.state, c.in_ok-state.rest)) c.in_ok-state.ensures.cases (lit< tt) in
    let more = split_parts 58 c.in_ok-state.rest.now (Some (c.in_ok-stream.stream, c.in_ok-stream.changes)) c.in_ok-stream.ensures.cases (lit< tt) in
    rw c.from_residual-in_err-depth.ensures
    (λ state stream depth turns written.
    let cut = ranking_is_cut c.args.text.now c.in_ok-state.state.now c.in_ok-state.rest.now state stream depth turns parts.0 (lacks 58 c.in_ok-state.state.now parts.1) written in
    let rest = rest_is_cut c.in_ok-state.rest.now c.in_ok-stream.stream.now c.in_ok-stream.changes.now stream depth turns more.0 (lacks 58 c.in_ok-stream.stream.now more.1) cut.1 in
    c.in_err-depth.ensures depth turns rest.1)

pub returns : goal.returns
returns c =
    let parts = split_parts 58 c.args.text.now (Some (c.in_ok-state.state, c.in_ok-state.rest)) c.in_ok-state.ensures.cases (lit< tt) in
    let more = split_parts 58 c.in_ok-state.rest.now (Some (c.in_ok-stream.stream, c.in_ok-stream.changes)) c.in_ok-stream.ensures.cases (lit< tt) in
    let one = c.in_ok-state-2.ensures in
    let two = c.in_ok-stream-2.ensures in
    let whole = parts.0 ∙ ap (λ rest. c.in_ok-state.state.now ++ 58 ∷ rest) more.0 in (
      c.in_ok-state-2.state,
      c.in_ok-stream-2.stream,
      c.in_ok-depth.depth,
      c.in_ok-depth.turns,
      (
        c.in_ok-state.state.now,
        c.in_ok-stream.stream.now,
        c.in_ok-stream.changes.now,
        (one.0.0, sym one.1),
        (two.0.0, sym two.1),
        rw one.1 one.0.1,
        rw two.1 two.0.1,
        c.in_ok-depth.ensures,
        whole,
      ),
      c.new.ensures,
    )
