use Rattle.std.proofs.Common.{◌≡◌, ◌<◌, true, length}
use Rattle.classes.specs.Hierarchy.{rank}
use Rattle.classes.specs.Marks.{is_marked}
use Rattle.classes.specs.Places.{match_with_number}
use Rattle.classes.proofs.WayLaws.{IsOnTheWay}
use Rattle.classes.proofs.ancestors.first_above.Given as goal

-- the search continues above this class
abbrev pub invariant-loop-found : goal.invariant-loop-found
invariant-loop-found g l = record {
  within : l.at < length l.ranked.classes.now;
  reached : is_marked l.reached l.at ≡ true;
  way : IsOnTheWay l.ranked.classes.now (match_with_number l.ranked.classes.now (g.L.Look.gives l.look)) l.class l.at;
}

abbrev pub decreases-loop-found : goal.decreases-loop-found
decreases-loop-found g l = rank l.ranked.ranks.now l.at
