use Rattle.std.proofs.Common.{◌≡◌, ◌++◌, map, take}
use Rattle.accesses.specs.Links.{link_from}
use Rattle.accesses.specs.declared.by_thread.Node.{Node}
use Rattle.accesses.proofs.by_thread.push_links_from.Given as goal

abbrev pub invariant-loop-node : goal.invariant-loop-node
invariant-loop-node l = l.links.items ≡ l.fn.links.items ++ map (λ (n : Node). link_from l.number n.noted) (take l.node-index l.nodes)
