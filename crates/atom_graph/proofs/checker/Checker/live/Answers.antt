use Rattle.std.proofs.Common.{ℕ, sym, subst}
use Rattle.velodrome.specs.Cycles.{AreAtomic}
use Rattle.velodrome.specs.Reach.{AreReached}
use Rattle.atom_graph.specs.Checking.{Fed, state_of_fed}
use Rattle.atom_graph.specs.StoredTrace.{fed_of}
use Rattle.atom_graph.proofs.Judged.{live_counted}
use Rattle.atom_graph.proofs.checker.Checker.live.Goals as goal

pub returns : goal.returns
returns c =
    subst (λ (fed : Fed). AreAtomic (state_of_fed fed).events → AreReached (state_of_fed fed) c.live_count.result) c.self.view_is
    (λ atomic. subst (λ (count : ℕ). AreReached (state_of_fed (fed_of c.self.inside.trace)) count) (sym c.live_count.ensures)
    (live_counted c.self.inside.trace c.self.inside.watch c.self.invariant atomic))
