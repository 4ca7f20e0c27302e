-- The first of the parts so far.
use Rattle.std.specs.List.{IsFirstBest}
use Rattle.exploration_joins.proofs.Orders.{part_is_sooner}
use Rattle.exploration_joins.proofs.order.first_failing.Given as goal

abbrev pub invariant-loop-place : goal.invariant-loop-place
invariant-loop-place l = IsFirstBest (part_is_sooner l.levels) l.parts l.place l.first
