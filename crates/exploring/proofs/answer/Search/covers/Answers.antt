use Rattle.std.proofs.Common.{arith, subst, ◌+◌, ◌≡◌}
use Rattle.exploring.specs.Explorations.{Covers, level_in}
use Rattle.exploring.proofs.answer.Search.covers.Goals as goal

pub returns-clause-covers : goal.returns-clause-covers
returns-clause-covers c =
    λ good start begun.
    let e = c.args.self.now.exploration in
    let same : level_in e ≡ c.args.most = omega (arith, c.departures.ensures, c.if-departures-most.false) in
    subst (λ n. Covers e.program e.plan start (n + 1)) same (c.covers.ensures.covers good start begun)
