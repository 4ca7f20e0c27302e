use Rattle.std.proofs.Common.{◌≡◌, Some}
use Rattle.exploration_joins.specs.Joins.{covered_words}
use Rattle.exploration_joins.proofs.Parts.{is_any}
use Rattle.exploration_joins.proofs.alike.first_covered.Goals as goal

pub returns-in-Some : goal.returns-in-Some
returns-in-Some c =
    is_any (λ part. covered_words part.found ≡ Some c.in-Some.words.now) c.args.parts.now c.loop-part.part-index c.part-item.result c.loop-part-test.true c.part-item.is c.in-Some.ensures
