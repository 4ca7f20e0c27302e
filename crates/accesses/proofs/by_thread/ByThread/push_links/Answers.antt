use Rattle.std.proofs.Common.{◌++◌, ◌∙◌, List, ap, map}
use Rattle.accesses.specs.Links.{link_from}
use Rattle.accesses.specs.Room.{NotedRoom}
use Rattle.accesses.specs.declared.by_thread.Node.{Node}
use Rattle.atom_order.specs.declared.link.Link.{Link}
use Rattle.accesses.proofs.Entries.{on_ok}
use Rattle.accesses.proofs.Ways.{mapped_notes}
use Rattle.accesses.proofs.by_thread.ByThread.push_links.Goals as goal

pub returns : goal.returns
returns c =
    let old = c.args.links.now.items in
    let number = c.args.number in
    on_ok c.push_links_from.result
    (λ is. is
    ∙ ap (λ (ns : List Node). old ++ map (λ (n : Node). link_from number n.noted) ns) c.as_slice.ensures.value
    ∙ ap (λ (links : List Link). old ++ links) (mapped_notes (link_from number) c.self.inside.nodes.items)
    ∙ ap (λ (r : NotedRoom). old ++ map (link_from number) r.items) c.self.view_is)
    c.push_links_from.ensures
