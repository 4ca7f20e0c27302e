use Rattle.std.proofs.Common.{take}
use Rattle.atom_order.specs.Distances.{IsBest}
use Rattle.atom_order.proofs.distances.nearest.Given as goal

-- The best of the links so far.
abbrev pub invariant-loop-link : goal.invariant-loop-link
invariant-loop-link l = IsBest (take l.link-index l.links) l.distances.entries l.best
