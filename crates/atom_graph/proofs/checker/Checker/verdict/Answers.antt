use Rattle.std.proofs.Common.{subst, ◌∙◌}
use Rattle.velodrome.specs.Verdicts.{IsVerdict}
use Rattle.velodrome.specs.declared.verdict.Verdict.TheVariants as verdict
use Rattle.accesses.specs.Rooms.{kept_of}
use Rattle.atom_graph.specs.Checking.{Fed, state_of_fed}
use Rattle.atom_graph.specs.StoredTrace.{fed_of}
use Rattle.atom_graph.proofs.Judged.{graph_verdict, watched_none}
use Rattle.atom_graph.proofs.checker.Checker.verdict.Goals as goal

pub returns-in_ok-order-in-None : goal.returns-in_ok-order-in-None
returns-in_ok-order-in-None c =
    let a = c.self.inside.trace in
    let v = c.self.inside.watch in
    subst (λ (fed : Fed). IsVerdict (state_of_fed fed) (verdict.Atomic c.from_vec.result)) c.self.view_is
    (graph_verdict (state_of_fed (fed_of a)) v.reduced.graph (kept_of v.reduced.accesses) c.from_vec.result
    (c.from_vec.ensures ∙ c.in_ok-order-in-None.ensures) (watched_none a v c.self.invariant c.in-None.is))
