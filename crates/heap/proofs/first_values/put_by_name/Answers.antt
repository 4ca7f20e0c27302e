use Rattle.heap.proofs.ChainLaws.{left_at_end, left_missing, left_topmost, left_more}
use Rattle.std.proofs.Common.{◌++◌, reverse, refl, ap, ◌∙◌, arith}
use Rattle.heap.specs.FirstValues.{own_values}
use Rattle.heap.proofs.first_values.put_by_name.Goals as goal

pub returns-in_default : goal.returns-in_default
returns-in_default c = left_missing c.args.program.now _ c.loop-most.values.items c.loop-most.most c.loop-most.name.now c.loop-most.invariant c.in_default.ensures

pub returns-in_default-superclass_name : goal.returns-in_default-superclass_name
returns-in_default-superclass_name c =
    left_topmost c.args.program.now _ c.loop-most.values.items c.loop-most.most c.loop-most.name.now c.loop-most.invariant c.in-Some.class.now c.push_values.new.values.items
    (c.in_ok-push_values.ensures ∙ ap (λ l. c.loop-most.values.items ++ reverse (own_values l)) c.as_slice.ensures) c.loop-most-test.true c.in-Some.ensures c.in_default-superclass_name.ensures

pub loop-most-preserved : goal.loop-most-preserved
loop-most-preserved c =
    left_more c.args.program.now _ c.loop-most.values.items c.loop-most.most c.loop-most.name.now c.loop-most.invariant _ c.in-Some-superclass_name.superclass.now c.in-Some.class.now
    c.push_values.new.values.items (c.in_ok-push_values.ensures ∙ ap (λ l. c.loop-most.values.items ++ reverse (own_values l)) c.as_slice.ensures) c.loop-most-test.true refl c.in-Some.ensures c.in-Some-superclass_name.ensures

pub returns : goal.returns
returns c = left_at_end c.args.program.now _ c.loop-most.values.items c.loop-most.most c.loop-most.name.now c.loop-most.invariant (omega arith)
