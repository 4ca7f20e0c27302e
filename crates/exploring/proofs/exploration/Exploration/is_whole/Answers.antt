use Rattle.std.proofs.Common.{subst, ◌∙◌}
use Rattle.std.specs.Prelude.{IsTrue, nat_eq}
use Rattle.exploring.proofs.Whole.{whole_fates}
use Rattle.exploring.specs.Explorations.{Explored, IsOnWay, is_whole}
use Rattle.exploring.proofs.exploration.Exploration.is_whole.Goals as goal

pub returns-clause-fates : goal.returns-clause-fates
returns-clause-fates c =
    λ whole start begun.
    let way = subst IsOnWay c.self.view_is c.self.invariant in
    let many = subst (λ n. IsTrue (nat_eq n c.self.inside.count)) (c.len.ensures ∙ c.self.inside.fates.ok.0) whole in
    whole_fates c.args.self.now start way begun (subst (λ (x : Explored). IsTrue (is_whole x)) c.self.view_is many)
