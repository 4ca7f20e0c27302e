-- The set has what the sets so far have.
use Rattle.std.proofs.Common.{◌≡◌, take}
use Rattle.classes.proofs.SetLaws.{AreUnited}
use Rattle.classes.proofs.class_sets.union_of.Given as goal

abbrev pub invariant-loop-other : goal.invariant-loop-other
invariant-loop-other l = record {
  levels : l.arrays.levels ≡ l.fn.arrays.levels;
  united : AreUnited l.fn.arrays.nodes.items l.arrays.nodes.items l.fn.arrays.levels l.roots (take l.other-index l.supers) l.union;
}
