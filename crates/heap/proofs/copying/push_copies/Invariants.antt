use Rattle.std.proofs.Common.{◌≡◌, ◌++◌, map, take}
use Rattle.std.specs.List.{AllByRecursion}
use Rattle.heap.specs.Stored.{object_of, IsKept}
use Rattle.heap.proofs.copying.push_copies.Given as goal

-- the objects so far, after those that were there
abbrev pub invariant-loop-object : goal.invariant-loop-object
invariant-loop-object l = (map (object_of l.program) l.copies.items ≡ map (object_of l.program) l.fn.copies.items ++ map (object_of l.program) (take l.object-index l.objects)) × AllByRecursion (IsKept l.program) l.copies.items
