-- The links into one more transaction are removed.
use Rattle.std.proofs.Common.{◌<◌, length, ◌∙◌, arith}
use Rattle.atom_order.proofs.Taken.{none_more}
use Rattle.atom_order.proofs.linked_order.changing.forget.Goals as goal

pub loop-y-preserved : goal.loop-y-preserved
loop-y-preserved c =
    let less : c.loop-y.y-index < length c.args.gone.now = omega arith in
    record {
      long = c.forget_one.ensures.len ∙ c.loop-y.invariant.long;
      others = λ y none. let parts = none_more c.args.gone.now c.loop-y.y-index y less none in c.forget_one.ensures.others y parts.1 ∙ c.loop-y.invariant.others y parts.0;
    }
