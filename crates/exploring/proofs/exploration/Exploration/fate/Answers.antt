use Rattle.std.proofs.Common.{ap, subst, ◌∙◌}
use Rattle.std.specs.Prelude.{slice_index_or}
use Rattle.exploring.proofs.Whole.{fate_at}
use Rattle.exploring.specs.Explorations.{Explored, IsOnWay}
use Rattle.exploring.proofs.exploration.Exploration.fate.Goals as goal

pub returns-clause-job : goal.returns-clause-job
returns-clause-job c =
    let way = subst IsOnWay c.self.view_is c.self.invariant in
    fate_at c.args.self.now way c.args.index c.index.result.now c.requires
    (c.index.ensures ∙ ap (λ (x : Explored). slice_index_or x.fates c.args.index c.index.result.now) c.self.view_is)
