use Rattle.classes.specs.Places.{match_with_number}
use Rattle.classes.proofs.MarkingLaws.{AreUsefulBelow}
use Rattle.classes.proofs.ancestors.mark_useful.Given as goal

-- the classes of lower ranks are marked exactly if they are useful
abbrev pub invariant-loop-place : goal.invariant-loop-place
invariant-loop-place g l =
    AreUsefulBelow l.ranked.classes.now l.ranked.supers.now l.ranked.ranks.now l.ranked.order.now l.ranked.is_hierarchy
    (match_with_number l.ranked.classes.now (g.L.Look.gives l.look)) l.reached l.place l.useful
