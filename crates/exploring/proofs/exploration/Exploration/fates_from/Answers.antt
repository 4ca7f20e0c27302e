use Rattle.std.proofs.Common.{drop, subst, take}
use Rattle.std.proofs.lemmas.Result.{MatchResult-weaker}
use Rattle.explore_jobs.specs.Fates.{IsFateOf}
use Rattle.exploring.proofs.Found.{all_some}
use Rattle.exploring.proofs.Whole.{counted}
use Rattle.exploring.specs.Batches.{AreFound}
use Rattle.exploring.specs.Explorations.{Explored}
use Rattle.exploring.proofs.exploration.Exploration.fates_from.Goals as goal

pub returns-clause-fates : goal.returns-clause-fates
returns-clause-fates g c =
    let e = c.args.self.now in
    let jobs = take c.args.count (drop c.args.from e.jobs.jobs) in
    let found = subst (λ (x : Explored). AreFound (IsFateOf x.program x.plan) (take c.args.count (drop c.args.from x.jobs.jobs)) c.in_ok-fates.field-0.items) c.self.view_is c.in_ok-fates.ensures in
    MatchResult-weaker c.all_of.result c.all_of.ensures
    (λ all same. all_some (IsFateOf e.program e.plan) jobs all.items (subst (AreFound (IsFateOf e.program e.plan) jobs) same found))
    (λ why is. tt)

pub returns-clause-count : goal.returns-clause-count
returns-clause-count g c =
    let e = c.args.self.now in
    let jobs = take c.args.count (drop c.args.from e.jobs.jobs) in
    let found = subst (λ (x : Explored). AreFound (IsFateOf x.program x.plan) (take c.args.count (drop c.args.from x.jobs.jobs)) c.in_ok-fates.field-0.items) c.self.view_is c.in_ok-fates.ensures in
    MatchResult-weaker c.all_of.result c.all_of.ensures
    (λ all same. counted (IsFateOf e.program e.plan) e.jobs.jobs all.items c.args.from c.args.count c.requires.jobs (all_some (IsFateOf e.program e.plan) jobs all.items (subst (AreFound (IsFateOf e.program e.plan) jobs) same found)))
    (λ why is. tt)
