use Rattle.std.proofs.Common.{◌≡◌, ◌-◌, ◌≤◌, List, Some, ◌++◌, length}
use Rattle.atom_order.specs.declared.link.Link.{Link}
use Rattle.atom_order.specs.Distances.{distance_in}
use Rattle.atom_order.specs.Trails.{IsTrail}
use Rattle.atom_order.specs.Shapes.{into_in}
use Rattle.atom_order.proofs.graph.Graph.trail.Given as goal

-- What leads back from here leads back from the start, after the links so far.
abbrev pub invariant-loop-at : goal.invariant-loop-at
invariant-loop-at l = record {
  fits : length l.trail.items ≤ l.fn.start.distance;
  far : distance_in l.distances.entries l.at ≡ Some (l.fn.start.distance - length l.trail.items);
  more : (tail : List Link) → IsTrail l.self.live (into_in l.self) l.transaction l.at tail
      → IsTrail l.self.live (into_in l.self) l.transaction l.fn.start.link.from (l.trail.items ++ tail);
}

abbrev pub decreases-loop-at : goal.decreases-loop-at
decreases-loop-at l = l.fn.start.distance - length l.trail.items
