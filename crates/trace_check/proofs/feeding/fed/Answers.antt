use Rattle.std.proofs.Common.{◌≡◌, ◌+◌, ◌<◌, ℕ, length, sym, ◌∙◌, ap, arith}
use Rattle.atom_graph.specs.Checking.{with_item}
use Rattle.trace_check.proofs.Taken.{fed_more, left_more, refused_so}
use Rattle.trace_check.proofs.feeding.fed.Goals as goal

pub loop-place-preserved : goal.loop-place-preserved
loop-place-preserved c =
    let here : c.loop-place.place < length c.args.items.now = omega arith in
    let is = c.index-items-place.is in
    let more = left_more c.loop-place.checker c.args.items.now c.loop-place.place (c.loop-place.place + 1) c.index-items-place.result here is c.in_default.ensures.0 in
    let grown = fed_more c.args.spec c.args.items.now c.loop-place.place c.index-items-place.result here is in
    record {
      fed = c.in_default.ensures.1 ∙ ap (with_item c.index-items-place.result) c.loop-place.invariant.fed ∙ grown;
      left = rw c.in_default.ensures.1 (more ∙ c.loop-place.invariant.left);
    }

pub returns-in-Err-clause-fault : goal.returns-in-Err-clause-fault
returns-in-Err-clause-fault c =
    let here : c.loop-place.place < length c.args.items.now = omega arith in
    rw c.of_item.ensures
    (refused_so c.loop-place.checker c.feed.new.self c.args.items.now c.loop-place.place (c.loop-place.place + 1) c.index-items-place.result _ c.in-Err.fault
    here c.index-items-place.is c.loop-place.invariant.left c.in-Err.ensures)
