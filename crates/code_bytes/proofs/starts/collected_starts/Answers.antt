use Rattle.std.proofs.Common.{ℕ, List, sym, ap, ◌∙◌}
use Rattle.jasmin.specs.Denote.{operations}
use Rattle.code_bytes.specs.Starting.{starts_onto}
use Rattle.code_bytes.proofs.Begun.{no_numbers, no_operations, too_long, one_more, answers_itself}
use Rattle.code_bytes.proofs.starts.collected_starts.Goals as goal

pub returns-in_default-next_operation : goal.returns-in_default-next_operation
returns-in_default-next_operation c =
    answers_itself c.finished.result _
    (no_operations c.loop-number.starts c.loop-number.pc c.loop-number.numbers.now c.in-Some.number.now c.in-Some.others.now (operations c.loop-number.rest.now) _
    c.in-Some.ensures.cases.0 c.in_default-next_operation.ensures c.loop-number.invariant.same
    ∙ sym c.finished.ensures)

pub returns-in_default-end_of : goal.returns-in_default-end_of
returns-in_default-end_of c =
    too_long c.loop-number.starts c.loop-number.pc c.loop-number.numbers.now c.in-Some.number.now c.in-Some.others.now (operations c.loop-number.rest.now) c.in-Some-next_operation.operation.now (operations c.in-Some-next_operation.behind.now) _
    c.in-Some.ensures.cases.0 c.in-Some-next_operation.ensures c.in_default-end_of.ensures.exact c.loop-number.invariant.same

pub loop-number-preserved : goal.loop-number-preserved
loop-number-preserved c = record {
  same =
      ap (λ (seen : List ℕ). starts_onto seen c.in-Some-end_of.end c.in-Some.others.now (operations c.in-Some-next_operation.behind.now)) c.in_ok-push.ensures.ok
      ∙ one_more c.loop-number.starts c.loop-number.pc c.loop-number.numbers.now c.in-Some.number.now c.in-Some.others.now (operations c.loop-number.rest.now) c.in-Some-next_operation.operation.now (operations c.in-Some-next_operation.behind.now) c.in-Some-end_of.end _
      c.in-Some.ensures.cases.0 c.in-Some-next_operation.ensures c.in-Some-end_of.ensures.exact c.loop-number.invariant.same;
  few = c.in-Some-end_of.ensures.few;
}

pub returns : goal.returns
returns c =
    answers_itself c.finished-2.result _
    (no_numbers c.loop-number.starts c.loop-number.pc c.loop-number.numbers.now (operations c.loop-number.rest.now) _
    c.in_default.ensures.cases c.loop-number.invariant.same
    ∙ sym c.finished-2.ensures)
