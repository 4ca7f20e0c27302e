-- The levels so far are sums.
use Rattle.exploration_joins.proofs.Sums.{AreSumsBelow}
use Rattle.exploration_joins.proofs.levels.sums.Given as goal

abbrev pub invariant-loop-level : goal.invariant-loop-level
invariant-loop-level l = AreSumsBelow l.parts l.level l.levels.items
