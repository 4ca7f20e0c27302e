-- The levels so far have the numbers of their places.
use Rattle.exploration_joins.specs.Texts.{AreNumbered}
use Rattle.exploration_joins.proofs.reading.levels_of.Given as goal

abbrev pub invariant-loop-line : goal.invariant-loop-line
invariant-loop-line l = AreNumbered l.levels.items
