use Rattle.std.proofs.Common.{List, [], ◌∷◌, ap, get_or, arith, length, subst, sym, take, ◌+◌, ◌<◌, ◌++◌, ◌∙◌, ◌≡◌}
use Rattle.std.specs.declared.alloc.Global.{Global}
use Rattle.std.specs.declared.vec.Vec.{Vec}
use Rattle.departures.specs.declared.departure.Departure.{Departure}
use Rattle.exploration_parts.proofs.Parts.{one_kept, one_left}
use Rattle.exploration_parts.specs.Parts.{has_first, has_place, those_of}
use Rattle.exploration_parts.proofs.part.Part.own_of.Goals as goal
use Rattle.exploration_parts.proofs.part.Part.own_of.Goals.{then-has_place+in_ok-push, else-has_place}

pub loop-place-init : goal.loop-place-init
unfolding those_of
loop-place-init c = c.new-own.ensures.items

pub loop-place-preserved : goal.loop-place-preserved
loop-place-preserved c =
    let all = c.args.all.now in
    let place = c.loop-place.place in
    let none : Departure = record { position = 0; thread = 0 } in
    let less : place < length all = c.loop-place-test.true in
    elim c.if-has_place.branch [
      | then-has_place+in_ok-push w ↦
          ap (λ (v : Vec Departure Global). v.items) w.own-is ∙ w.in_ok-push.ensures.items ∙ ap (λ (ds : List Departure). ds ++ get_or all place none ∷ []) c.loop-place.invariant
          ∙ sym (one_kept c.args.self place all none less (sym c.has_place.ensures ∙ w.if-has_place.true))
      | else-has_place w ↦
          ap (λ (v : Vec Departure Global). v.items) w.own-is ∙ c.loop-place.invariant
          ∙ sym (one_left c.args.self place all none less (sym c.has_place.ensures ∙ w.if-has_place.false))
    ]
