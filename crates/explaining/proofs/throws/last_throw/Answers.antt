use Rattle.std.proofs.Common.{◌≡◌, ◌+◌, ◌∷◌, drop, get_or, sym, ap, ◌∙◌}
use Rattle.std.proofs.lemmas.List.{drop_more}
use Rattle.std.specs.String.{string_bytes}
use Rattle.explaining.specs.Throws.{ThrowLine, last_throw}
use Rattle.explaining.proofs.throws.last_throw.Goals as goal

pub loop-place-preserved : goal.loop-place-preserved
loop-place-preserved c =
    let xs = c.args.choices.now in
    let k = c.loop-place.place in
    let u = get_or xs k 0 in
    let rest = drop (k + 1) xs in
    let here : drop k xs ≡ u ∷ rest = drop_more xs k 0 c.loop-place-test.true in
    let last : ThrowLine = record { exception = c.loop-place.last.exception; line = string_bytes c.loop-place.last.line } in
    rw (c.in_ok-take_turn.ensures.last, c.in_ok-take_turn.ensures.machine)
    (ap (λ cs. last_throw c.args.sources.now.first c.args.sources.now.files.now c.args.thread last (k + 1) c.loop-place.machine cs) (sym here)
    ∙ c.loop-place.invariant)
