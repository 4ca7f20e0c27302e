use Rattle.std.proofs.Common.{sym, ◌∙◌, arith}
use Rattle.std.proofs.lemmas.Bool.{ltb-false}
use Rattle.departures.specs.declared.departure.Departure.{Departure}
use Rattle.exploration_joins.proofs.Orders.{ended, longer}
use Rattle.exploration_joins.proofs.order.order_of_departures.Goals as goal

none : Departure
none = record { position = 0; thread = 0 }

pub returns-in_default : goal.returns-in_default
returns-in_default c =
    let past = ltb-false _ _ (sym c.in_default.ensures.lookup.0) in
    sym (c.loop-place.invariant.0 ∙ longer c.args.one.now c.args.other.now c.loop-place.place none c.loop-place-test.true past)

pub returns : goal.returns
returns c =
    c.cmp.ensures
    ∙ sym (c.loop-place.invariant.0 ∙ ended c.args.one.now c.args.other.now c.loop-place.place none (omega (arith, c.loop-place-test.false, c.loop-place.auto.place-end)) c.loop-place.invariant.1)
