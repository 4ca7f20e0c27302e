use Rattle.exploration_joins.proofs.Covers.{repeated}
use Rattle.exploration_joins.proofs.joining.first_repeated.Goals as goal

pub returns : goal.returns
returns c =
    repeated c.args.parts.now c.in_ok-numbers.numbers.items c.sort.new.numbers.items c.as_slice.result.now c.first_twice.result c.in_ok-numbers.ensures c.sort.ensures.same
    c.as_slice.ensures.value c.first_twice.ensures
