use Rattle.std.proofs.Common.{◌+◌, ◌≤◌}
use Rattle.classes.specs.Hierarchy.{rank}
use Rattle.classes.proofs.MarkingLaws.{AreMarkedFrom}
use Rattle.classes.proofs.ancestors.mark_above.Given as goal

-- the classes of at least this rank are done
abbrev pub invariant-loop-left : goal.invariant-loop-left
invariant-loop-left l = record {
  within : l.left ≤ rank l.ranked.ranks.now l.class + 1;
  marked : AreMarkedFrom l.ranked.classes.now l.ranked.supers.now l.ranked.ranks.now l.ranked.order.now l.ranked.is_hierarchy l.class l.left l.reached;
}

abbrev pub decreases-loop-left : goal.decreases-loop-left
decreases-loop-left l = l.left
