use Rattle.std.proofs.Common.{◌≡◌, ap, subst, ◌∙◌}
use Rattle.atom_order.specs.Shapes.{ClosesCycle, live_links}
use Rattle.accesses.specs.Accesses.{AreLinks}
use Rattle.atom_graph.proofs.reduced.Reduced.event.Goals as goal

pub returns-in_ok-by-in-Some-clause-ok : goal.returns-in_ok-by-in-Some-clause-ok
returns-in_ok-by-in-Some-clause-ok c =
    let t = c.args.transaction in
    let graph = c.args.self.now.graph in
    let links = c.ready_links.new.links.items in
    let closed = rw c.in-Some.is at c.in_ok-closing.ensures.ok in
    let live : c.in_ok-live.live.items ≡ live_links t graph.live links = c.in_ok-live.ensures ∙ ap (live_links t graph.live) c.as_slice.ensures.value in
    record {
      links = links;
      are = subst (λ kept. AreLinks kept c.args.number c.args.item.now links) c.reserve.ensures.same c.in_ok-ready_links.ensures;
      closing = c.in-Some.closing;
      closes = subst (λ ls. ClosesCycle t ls graph c.in-Some.closing) live closed.1;
      found = c.in_ok-by-in-Some.ensures;
    }
