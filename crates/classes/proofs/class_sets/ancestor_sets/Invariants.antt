use Rattle.std.proofs.Common.{◌≤◌, ◌+◌, ◌/◌, ◌^◌, length}
use Rattle.classes.specs.PersistentArrays.{HasZeros}
use Rattle.classes.proofs.AncestorLaws.{AreSetsBelow}
use Rattle.classes.proofs.class_sets.ancestor_sets.Given as goal

-- The sets of the classes so far.
abbrev pub invariant-loop-place : goal.invariant-loop-place
invariant-loop-place l = record {
  enough : length l.ranked.classes.now / 32 + 1 ≤ 4 ^ l.arrays.levels;
  zeros : HasZeros l.arrays.nodes.items;
  below : AreSetsBelow l.ranked.classes.now l.ranked.supers.now l.ranked.ranks.now l.ranked.order.now l.ranked.is_hierarchy l.arrays.levels l.place l.arrays.nodes.items l.roots.items;
}
