use Rattle.std.proofs.Common.{◌≡◌, ◌++◌, flat_map, length, map}
use Rattle.std.specs.List.{AllByRecursion}
use Rattle.heap.specs.Stored.{object_of, IsKept}
use Rattle.heap.proofs.saved.saved_groups.Given as goal

-- the groups so far, followed by the objects that are left, are all
abbrev pub invariant-loop-rest : goal.invariant-loop-rest
invariant-loop-rest l = record {
  shown : map (object_of l.program) (flat_map (λ g. g) l.groups.items) ++ map (object_of l.program) l.rest ≡ map (object_of l.program) l.objects;
  kept : AllByRecursion (IsKept l.program) (flat_map (λ g. g) l.groups.items);
  rest : AllByRecursion (IsKept l.program) l.rest;
}

abbrev pub decreases-loop-rest : goal.decreases-loop-rest
decreases-loop-rest l = length l.rest
