-- The parts so far have this number of levels or more, and a part has no more.
use Rattle.std.proofs.Common.{◌≡◌, Any, length, take}
use Rattle.exploration_joins.specs.Sums.{HaveLevels}
use Rattle.exploration_joins.proofs.levels.least_levels.Given as goal

abbrev pub invariant-loop-part : goal.invariant-loop-part
invariant-loop-part l =
    HaveLevels (take l.part-index l.parts) l.least × Any (λ part. length part.levels.items ≡ l.least) l.parts
