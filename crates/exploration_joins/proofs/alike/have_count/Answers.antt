use Rattle.std.proofs.Common.{◌≡◌}
use Rattle.exploration_joins.proofs.Parts.{is_any}
use Rattle.exploration_joins.proofs.alike.have_count.Goals as goal

pub returns-then-part-count : goal.returns-then-part-count
returns-then-part-count c =
    is_any (λ part. part.part.count ≡ c.args.count → ⊥) c.args.parts.now c.loop-part.part-index c.part-item.result c.loop-part-test.true c.part-item.is c.if-part-count.true
