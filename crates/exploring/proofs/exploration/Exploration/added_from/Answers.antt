use Rattle.std.proofs.Common.{drop, subst, take}
use Rattle.std.proofs.lemmas.Result.{MatchResult-weaker}
use Rattle.exploring.proofs.Found.{all_some}
use Rattle.exploring.proofs.Whole.{counted}
use Rattle.exploring.specs.Batches.{AddsChildrenOf, AreFound}
use Rattle.exploring.specs.Explorations.{Explored}
use Rattle.exploring.proofs.exploration.Exploration.added_from.Goals as goal

pub returns-clause-added : goal.returns-clause-added
returns-clause-added g c =
    let e = c.args.self.now in
    let jobs = take c.args.count (drop c.args.from e.jobs.jobs) in
    let found = subst (λ (x : Explored). AreFound (AddsChildrenOf x.program x.plan) (take c.args.count (drop c.args.from x.jobs.jobs)) c.in_ok-children.field-0.items) c.self.view_is c.in_ok-children.ensures in
    MatchResult-weaker c.all_of.result c.all_of.ensures
    (λ all same. all_some (AddsChildrenOf e.program e.plan) jobs all.items (subst (AreFound (AddsChildrenOf e.program e.plan) jobs) same found))
    (λ why is. tt)

pub returns-clause-count : goal.returns-clause-count
returns-clause-count g c =
    let e = c.args.self.now in
    let jobs = take c.args.count (drop c.args.from e.jobs.jobs) in
    let found = subst (λ (x : Explored). AreFound (AddsChildrenOf x.program x.plan) (take c.args.count (drop c.args.from x.jobs.jobs)) c.in_ok-children.field-0.items) c.self.view_is c.in_ok-children.ensures in
    MatchResult-weaker c.all_of.result c.all_of.ensures
    (λ all same. counted (AddsChildrenOf e.program e.plan) e.jobs.jobs all.items c.args.from c.args.count c.requires.jobs (all_some (AddsChildrenOf e.program e.plan) jobs all.items (subst (AreFound (AddsChildrenOf e.program e.plan) jobs) same found)))
    (λ why is. tt)
