-- The sum of the parts so far.
use Rattle.std.proofs.Common.{◌≡◌, take}
use Rattle.exploration_joins.specs.Sums.{total}
use Rattle.exploration_joins.proofs.levels.total.Given as goal

abbrev pub invariant-loop-part : goal.invariant-loop-part
invariant-loop-part l = l.sum ≡ total l.count l.level (take l.part-index l.parts)
