use Rattle.std.proofs.Common.{ap, length, refl, subst, sym, ◌∙◌, ◌≤◌}
use Rattle.exploring.proofs.Thorough.{thorough_begins}
use Rattle.exploring.proofs.Whole.{one_first}
use Rattle.exploring.specs.Explorations.{Explored}
use Rattle.exploring.proofs.answer.Search.new.Goals as goal

pub returns-clause-thorough : goal.returns-clause-thorough
returns-clause-thorough c =
    λ bounds runs.
    let first = c.new.ensures in
    let count = ap (λ (e : Explored). e.count) first in
    thorough_begins bounds _ c.new-2.ensures.items (sym runs) refl (ap (λ (e : Explored). e.is_good_below) first) (ap (λ (e : Explored). e.fates) first)
    (ap (λ (e : Explored). length e.jobs.jobs) first ∙ sym count) (subst (λ n. n ≤ 1) (sym count) (one_first c.args.plan.now.part))
