use Rattle.atom_graph.proofs.Opened.{checker_opened}
use Rattle.atom_graph.proofs.checker.Checker.new.Goals as goal

pub invariant_of-result : goal.invariant_of-result
invariant_of-result c =
    let trace = c.new-trace.ensures in
    let watch = c.in_ok-watch.ensures in
    checker_opened c.new-trace.result c.in_ok-watch.watch trace.table trace.items trace.transactions trace.begun watch.0 watch.1 watch.2
