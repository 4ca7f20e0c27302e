use Rattle.std.proofs.Common.{ap, sym, ◌∙◌, Ok, List, ℕ}
use Rattle.std.proofs.lemmas.Result.{err_from_is_err_and}
use Rattle.jasmin.specs.Denote.{operations}
use Rattle.code_bytes.proofs.Written.{no_numbers, no_starts, no_operations, one_more, fails, few_behind}
use Rattle.code_bytes.proofs.bytes.collected_bytes.Goals as goal

pub returns-in_default-split_first : goal.returns-in_default-split_first
returns-in_default-split_first c =
    no_starts c.args.starts.now c.args.labels.now c.loop-number.bytes.items c.loop-number.numbers.now c.in-Some.number.now c.in-Some.others.now c.loop-number.pcs.now (operations c.loop-number.rest.now) _
    c.in-Some.ensures.cases.0 c.in_default-split_first.ensures.cases c.loop-number.invariant.same
    ∙ ap (λ (bytes : List ℕ). Ok bytes) (sym c.from_vec.ensures)

pub returns-in_default-next_operation : goal.returns-in_default-next_operation
returns-in_default-next_operation c =
    no_operations c.args.starts.now c.args.labels.now c.loop-number.bytes.items c.loop-number.numbers.now c.in-Some.number.now c.in-Some.others.now c.loop-number.pcs.now c.in-Some-split_first.pc.now c.in-Some-split_first.later.now (operations c.loop-number.rest.now) _
    c.in-Some.ensures.cases.0 c.in-Some-split_first.ensures.cases.0 c.in_default-next_operation.ensures c.loop-number.invariant.same
    ∙ ap (λ (bytes : List ℕ). Ok bytes) (sym c.from_vec-in_default-next_operation.ensures)

pub returns-in_err-write_operation : goal.returns-in_err-write_operation
returns-in_err-write_operation c =
    let p = err_from_is_err_and c.from_residual.result c.from_residual.ensures.1 in
    rw (p.1, p.2)
    (fails c.in_err-write_operation.field-0.0 c.args.starts.now c.args.labels.now c.loop-number.bytes.items c.write_operation.new.out.items c.loop-number.numbers.now c.in-Some.number.now c.in-Some.others.now c.loop-number.pcs.now c.in-Some-split_first.pc.now c.in-Some-split_first.later.now (operations c.loop-number.rest.now) c.in-Some-next_operation.operation.now (operations c.in-Some-next_operation.behind.now) _
    c.in-Some.ensures.cases.0 c.in-Some-split_first.ensures.cases.0 c.in-Some-next_operation.ensures c.in_err-write_operation.ensures c.loop-number.invariant.same)

pub loop-number-preserved : goal.loop-number-preserved
loop-number-preserved c = record {
  same =
      one_more c.args.starts.now c.args.labels.now c.loop-number.bytes.items c.write_operation.new.out.items c.loop-number.numbers.now c.in-Some.number.now c.in-Some.others.now c.loop-number.pcs.now c.in-Some-split_first.pc.now c.in-Some-split_first.later.now (operations c.loop-number.rest.now) c.in-Some-next_operation.operation.now (operations c.in-Some-next_operation.behind.now) _
      c.in-Some.ensures.cases.0 c.in-Some-split_first.ensures.cases.0 c.in-Some-next_operation.ensures c.in_ok-write_operation.ensures.0 c.in_ok-write_operation.ensures.1 c.loop-number.invariant.same;
  few = few_behind (operations c.loop-number.rest.now) c.in-Some-next_operation.operation.now (operations c.in-Some-next_operation.behind.now) c.in-Some-next_operation.ensures c.loop-number.invariant.few;
}

pub returns : goal.returns
returns c =
    no_numbers c.args.starts.now c.args.labels.now c.loop-number.bytes.items c.loop-number.numbers.now c.loop-number.pcs.now (operations c.loop-number.rest.now) _
    c.in_default.ensures.cases c.loop-number.invariant.same
    ∙ ap (λ (bytes : List ℕ). Ok bytes) (sym c.from_vec-2.ensures)
