use Rattle.std.proofs.Common.{◌+◌, drop}
use Rattle.std.proofs.lemmas.Result.{err_from_is_err_and}
use Rattle.jvms_file.specs.Results.{results_of}
use Rattle.insn.specs.Places.{case_or_fault}
use Rattle.insn.proofs.Collecting.{items_go_on, items_stop, drop_next}
use Rattle.insn.proofs.places.cases.Goals as goal

pub returns-in_err-one : goal.returns-in_err-one
returns-in_err-one c =
    let p = err_from_is_err_and c.from_residual-in_err-one.result c.from_residual-in_err-one.ensures.1 in
    let f = case_or_fault c.args.starts.now c.args.fault in
    let i = c.loop-switch_case.switch_case-index in
    rw (p.1, p.2) (items_stop c.in_err-one.field-0.0 f c.loop-switch_case.found (drop i c.args.switch_cases.now) _ (drop (i + 1) c.args.switch_cases.now) (results_of f c.args.switch_cases.now) (drop_next c.args.switch_cases.now i _ c.loop-switch_case-test.true) c.in_err-one.ensures c.loop-switch_case.invariant)

pub loop-switch_case-preserved : goal.loop-switch_case-preserved
loop-switch_case-preserved c =
    let f = case_or_fault c.args.starts.now c.args.fault in
    let i = c.loop-switch_case.switch_case-index in
    rw c.in_ok-push.ensures.ok (items_go_on f c.loop-switch_case.found (drop i c.args.switch_cases.now) _ (drop (i + 1) c.args.switch_cases.now) c.in_ok-one.one (results_of f c.args.switch_cases.now) (drop_next c.args.switch_cases.now i _ c.loop-switch_case-test.true) c.in_ok-one.ensures c.loop-switch_case.invariant)
