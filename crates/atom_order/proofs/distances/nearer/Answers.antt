-- One more link.
use Rattle.std.proofs.Common.{Option, sym, subst, ◌∙◌, arith}
use Rattle.atom_order.specs.declared.distances.Near.{Near}
use Rattle.atom_order.specs.Distances.{IsBest}
use Rattle.atom_order.proofs.Nearest.{best_stays, best_first, best_before, best_now}
use Rattle.atom_order.proofs.distances.nearer.Goals as goal

pub returns-in-None : goal.returns-in-None
returns-in-None c = λ links best. best_stays links c.args.link c.args.distances.now.entries c.args.best (sym (c.in-None.ensures ∙ c.get.ensures.value)) best

pub returns-in-None-best : goal.returns-in-None-best
returns-in-None-best c = λ links best.
    best_first links c.args.link c.args.distances.now.entries c.in-Some.distance (sym (c.in-Some.ensures ∙ c.get.ensures.value))
    (subst (λ (o : Option Near). IsBest links c.args.distances.now.entries o) c.in-None-best.is best)

pub returns-then-before-distance : goal.returns-then-before-distance
returns-then-before-distance c = λ links best.
    best_before links c.args.link c.args.distances.now.entries c.in-Some-best.before c.in-Some.distance (sym (c.in-Some.ensures ∙ c.get.ensures.value)) (let low = c.if-before-distance.true in omega arith)
    (subst (λ (o : Option Near). IsBest links c.args.distances.now.entries o) c.in-Some-best.is best)

pub returns-else-before-distance : goal.returns-else-before-distance
returns-else-before-distance c = λ links best.
    best_now links c.args.link c.args.distances.now.entries c.in-Some-best.before c.in-Some.distance (sym (c.in-Some.ensures ∙ c.get.ensures.value)) (let low = c.if-before-distance.false in omega arith)
    (subst (λ (o : Option Near). IsBest links c.args.distances.now.entries o) c.in-Some-best.is best)
