-- None of the parts so far covers all.
use Rattle.std.proofs.Common.{◌≡◌, All, None, take}
use Rattle.exploration_joins.specs.Joins.{covered_words}
use Rattle.exploration_joins.proofs.alike.first_covered.Given as goal

abbrev pub invariant-loop-part : goal.invariant-loop-part
invariant-loop-part l = All (λ part. covered_words part.found ≡ None) (take l.part-index l.parts)
