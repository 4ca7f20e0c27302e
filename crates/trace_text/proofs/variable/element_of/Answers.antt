-- The parts are those of the only element that the text could be.
use Rattle.escapes.proofs.Spelling.{not_empty}
use Rattle.trace_text.proofs.Variables.{no_close, more_behind, no_reference, no_index}
use Rattle.trace_text.proofs.variable.element_of.Goals as goal

pub returns-in_err-index : goal.returns-in_err-index
returns-in_err-index c =
    rw c.from_residual-in_err-index.ensures
    (no_close c.args.text.now c.in_ok-reference.reference.now c.in_ok-reference.behind.now c.in_ok-reference.ensures.exact.0 c.in_ok-reference.ensures.exact.1 c.in_err-index.ensures.exact)

pub returns-then-not-is_empty : goal.returns-then-not-is_empty
returns-then-not-is_empty c =
    more_behind c.args.text.now c.in_ok-reference.reference.now c.in_ok-reference.behind.now c.in_ok-index.index.now c.in_ok-index.rest.now
    (record { open_split = c.in_ok-reference.ensures.exact.0; open_clear = c.in_ok-reference.ensures.exact.1; close_split = c.in_ok-index.ensures.exact.0; close_clear = c.in_ok-index.ensures.exact.1 })
    (not_empty c.in_ok-index.rest.now c.is_empty.result c.is_empty.ensures c.if-not-is_empty.true)

pub returns-in_err-reference-2 : goal.returns-in_err-reference-2
returns-in_err-reference-2 c =
    rw c.from_residual-in_err-reference-2.ensures
    (no_reference c.args.text.now c.in_ok-reference.reference.now c.in_ok-reference.behind.now c.in_ok-index.index.now c.in_ok-index.rest.now
    (record { open_split = c.in_ok-reference.ensures.exact.0; open_clear = c.in_ok-reference.ensures.exact.1; close_split = c.in_ok-index.ensures.exact.0; close_clear = c.in_ok-index.ensures.exact.1 })
    c.in_err-reference-2.ensures)

pub returns-in_err-index-2 : goal.returns-in_err-index-2
returns-in_err-index-2 c =
    rw c.from_residual-in_err-index-2.ensures
    (no_index c.args.text.now c.in_ok-reference.reference.now c.in_ok-reference.behind.now c.in_ok-index.index.now c.in_ok-index.rest.now
    (record { open_split = c.in_ok-reference.ensures.exact.0; open_clear = c.in_ok-reference.ensures.exact.1; close_split = c.in_ok-index.ensures.exact.0; close_clear = c.in_ok-index.ensures.exact.1 })
    c.in_err-index-2.ensures)
