use Rattle.classes.proofs.StartLaws.{AreTotalsBelow}
use Rattle.classes.proofs.slot_starts.totals_of.Given as goal

-- the totals of the classes so far
abbrev pub invariant-loop-place : goal.invariant-loop-place
invariant-loop-place l =
    AreTotalsBelow l.ranked.classes.now l.ranked.supers.now l.ranked.ranks.now l.ranked.order.now l.ranked.is_hierarchy l.place l.totals.items
