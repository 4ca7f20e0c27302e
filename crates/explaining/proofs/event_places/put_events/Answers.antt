use Rattle.std.proofs.Common.{◌≡◌, ◌+◌, ◌∷◌, ◌++◌, cond, [], None, drop, get_or, sym, ap, ◌∙◌, append_assoc}
use Rattle.std.proofs.lemmas.List.{drop_more}
use Rattle.std.specs.String.{string_bytes}
use Rattle.explaining.specs.declared.event_turns.EventTurn.{EventTurn}
use Rattle.explaining.specs.EventPlaces.{event_place, event_places, is_in_pairs}
use Rattle.explaining.proofs.event_places.put_events.Goals as goal

pub loop-index-preserved : goal.loop-index-preserved
loop-index-preserved c =
    let xs = c.args.events.now in
    let k = c.loop-index.index in
    let none : EventTurn = record { turn = 0; place = None } in
    let e = get_or xs k none in
    let rest = drop (k + 1) xs in
    let here : drop k xs ≡ e ∷ rest = drop_more xs k none c.loop-index-test.true in
    let first = c.args.sources.now.first in
    let files = c.args.sources.now.files.now in
    let program = c.args.program.now in
    let pairs = c.args.pairs.now in
    let so_far = string_bytes c.loop-index.out in
    let line = cond (is_in_pairs pairs (k + 1)) (event_place program first files (k + 1) e.place) [] in
    rw c.in_ok-put_event.ensures
    (append_assoc so_far line (event_places program first files pairs (k + 1 + 1) rest)
    ∙ ap (λ es. so_far ++ event_places program first files pairs (k + 1) es) (sym here) ∙ c.loop-index.invariant)
