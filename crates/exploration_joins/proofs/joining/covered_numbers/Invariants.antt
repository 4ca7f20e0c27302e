-- The numbers so far.
use Rattle.std.proofs.Common.{filter, map, take, ◌≡◌}
use Rattle.exploration_joins.specs.Joins.{covers}
use Rattle.exploration_joins.proofs.joining.covered_numbers.Given as goal

abbrev pub invariant-loop-place : goal.invariant-loop-place
invariant-loop-place l = l.numbers.items ≡ map (λ part. part.part.index) (filter (λ part. covers part.found) (take l.place l.parts))
