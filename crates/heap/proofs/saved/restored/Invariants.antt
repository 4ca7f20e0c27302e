use Rattle.std.proofs.Common.{◌≡◌, flat_map, map, take}
use Rattle.std.specs.List.{AllByRecursion}
use Rattle.heap.specs.Stored.{object_of, IsKept}
use Rattle.heap.proofs.saved.restored.Given as goal

-- the objects of the groups so far
abbrev pub invariant-loop-group : goal.invariant-loop-group
invariant-loop-group l = (map (object_of l.program) l.objects.items ≡ map (object_of l.program) (flat_map (λ g. g) (take l.group-index l.groups))) × AllByRecursion (IsKept l.program) l.objects.items
