use Rattle.std.proofs.Common.{List, ap, arith, length, subst, ◌+◌, ◌∙◌, ◌≡◌, ◌≤◌}
use Rattle.std.proofs.lemmas.List.{take_all}
use Rattle.departures.specs.declared.departure.Departure.{Departure}
use Rattle.exploring.proofs.Whole.{none_grown}
use Rattle.exploring.specs.Explorations.{Explored, children_of_all, level_in}
use Rattle.exploring.specs.Growths.{IsGrowthOf}
use Rattle.exploring.specs.declared.growth.Growth.{Growth}
use Rattle.exploring.proofs.exploration.Exploration.children.Goals as goal

pub loop-from-init : goal.loop-from-init
loop-from-init g c =
    let e = c.args.self.now in
    let each : c.new-growth.result.jobs.each ≡ level_in e + 1 = ap (λ (x : Growth). x.jobs.each) c.new-growth.ensures ∙ ap (λ n. n + 1) (c.each.ensures ∙ ap (λ (x : Explored). x.jobs.each) c.self.view_is) in
    (each, omega arith, λ start begun. none_grown e.program e.plan start c.args.room e.jobs.jobs c.new-growth.result (ap (λ (x : Growth). x.jobs.jobs) c.new-growth.ensures) (ap (λ (x : Growth). x.count) c.new-growth.ensures))

pub returns-clause-children : goal.returns-clause-children
returns-clause-children g c =
    λ start begun.
    let e = c.args.self.now in
    let past : length e.jobs.jobs ≤ c.loop-from.from = subst (λ (x : Explored). length x.jobs.jobs ≤ c.loop-from.from) c.self.view_is (subst (λ n. n ≤ c.loop-from.from) c.len.ensures c.loop-from-test.false) in
    subst (λ (js : List (List Departure)). IsGrowthOf c.args.room (children_of_all e.program e.plan start js) c.loop-from.growth) (take_all c.loop-from.from e.jobs.jobs past)
    (c.loop-from.invariant.2 start begun)
