use Rattle.std.proofs.Common.{length, subst, sym, ◌<◌}
use Rattle.exploring.proofs.Whole.{run_is_among}
use Rattle.exploring.specs.Explorations.{Explored, IsOnWay}
use Rattle.exploring.proofs.exploration.Exploration.job.Goals as goal

pub get-requires : goal.get-requires
get-requires c =
    let way = subst IsOnWay c.self.view_is c.self.invariant in
    subst (λ (x : Explored). c.args.index < length x.jobs.jobs) (sym c.self.view_is) (run_is_among c.args.self.now way c.args.index c.requires)
