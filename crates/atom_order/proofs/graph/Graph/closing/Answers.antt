-- The nearest link, and the trail back from it.
use Rattle.std.proofs.Common.{◌≤◌, length, sym, subst}
use Rattle.atom_order.specs.Shapes.{into_in}
use Rattle.atom_order.proofs.Ways.{no_shorter, closes_none}
use Rattle.atom_order.proofs.graph.Graph.closing.Goals as goal

pub returns-in-Some : goal.returns-in-Some
returns-in-Some c =
    let s = c.args.self.now in
    let entries = c.in_ok-distances.distances.entries in
    record {
      among = c.in-Some.ensures.among;
      way = c.in_ok-trail-in-Some.ensures.way;
      shortest = λ l others h way.
          subst (λ n. n ≤ length others) (sym c.in_ok-trail-in-Some.ensures.long)
          (no_shorter s.live (into_in s) c.args.transaction entries c.in_ok-distances.ensures c.args.links.now c.in-Some.near c.in-Some.ensures l others h way);
    }

pub returns : goal.returns
returns c =
    let s = c.args.self.now in
    closes_none s.live (into_in s) c.args.transaction c.in_ok-distances.distances.entries c.in_ok-distances.ensures c.args.links.now c.in-None.ensures
