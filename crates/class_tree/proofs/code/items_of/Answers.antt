use Rattle.std.proofs.Common.{◌≡◌, length, sym, ◌∙◌, arith}
use Rattle.std.proofs.lemmas.Result.{err_from_is_err_and}
use Rattle.class_tree.proofs.Items.{items_go_on, items_stop, items_end, past_either}
use Rattle.class_tree.proofs.code.items_of.Goals as goal

pub returns-in_err-operation : goal.returns-in_err-operation
returns-in_err-operation c =
    let p = err_from_is_err_and c.from_residual-in_err-operation.result c.from_residual-in_err-operation.ensures.1 in
    rw (p.1, p.2, ← c.loop-place.invariant)
    (items_stop c.in_err-operation.field-0.0 c.args.texts.now c.args.code.now c.as_slice-bytes.result.now c.loop-place.items c.loop-place.place c.as_slice-starts.result.now c.as_slice-insns.result.now c.index-insns-place.result
    c.as_slice-bytes.ensures (omega arith) (omega arith) c.index-insns-place.is c.in_err-operation.ensures)

pub loop-place-preserved : goal.loop-place-preserved
loop-place-preserved c =
    items_go_on c.args.texts.now c.args.code.now c.in_ok-marks.marks c.as_slice-bytes.result.now c.loop-place.items c.push_label.new.items c.push.new.self c.loop-place.place c.as_slice-starts.result.now c.as_slice-insns.result.now c.index-insns-place.result c.in_ok-operation.operation
    c.in_ok-marks.ensures c.as_slice-bytes.ensures (omega arith) (omega arith) c.index-insns-place.is c.in_ok-operation.ensures c.in_ok-push_label.ensures c.in_ok-push.ensures.ok
    ∙ c.loop-place.invariant

pub returns : goal.returns
returns c =
    let here : c.loop-place.place ≡ c.min-count.result = omega arith in
    sym c.loop-place.invariant
    ∙ items_end c.args.texts.now c.args.code.now c.in_ok-marks.marks c.loop-place.items c.push_label-2.new.items c.loop-place.place c.as_slice-starts.result.now c.as_slice-insns.result.now c.in_ok-marks.ensures (rw here c.in_ok-push_label-2.ensures)
    (past_either (length c.as_slice-starts.result.now) (length c.as_slice-insns.result.now) c.loop-place.place (omega arith))
