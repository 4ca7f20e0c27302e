use Rattle.std.proofs.Common.{take}
use Rattle.atom_order.specs.Shapes.{into_in}
use Rattle.atom_order.proofs.Ways.{AreSoFar}
use Rattle.atom_order.proofs.graph.Graph.distances.Given as goal

-- The distances of the visited transactions are stored.
abbrev pub invariant-loop-y : goal.invariant-loop-y
invariant-loop-y l = AreSoFar l.self.live (into_in l.self) l.transaction (take l.y-index l.self.live) l.y-index l.distances.entries
