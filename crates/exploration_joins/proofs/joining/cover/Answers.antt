use Rattle.exploration_joins.proofs.Covers.{are_covered}
use Rattle.exploration_joins.proofs.joining.cover.Goals as goal

pub returns : goal.returns
returns c =
    are_covered c.args.parts.now c.in_ok-numbers.numbers.items c.sort.new.numbers.items c.as_slice.result.now c.args.count c.first_missing.result c.in_ok-numbers.ensures c.sort.ensures.same
    c.as_slice.ensures.value c.first_missing.ensures
