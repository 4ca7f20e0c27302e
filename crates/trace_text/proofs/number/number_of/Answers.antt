-- Each digit is added to the number.
use Rattle.std.proofs.Common.{suc, length, ap, ◌∙◌, sym, arith}
use Rattle.std.specs.Fmt.{decimal}
use Rattle.trace_text.proofs.Numbers.{not_of_nothing, not_of_byte, not_of_leading_zero, not_of_large, first_digit, next_digit, whole_number}
use Rattle.trace_text.proofs.number.number_of.Goals as goal
use Rattle.trace_text.proofs.number.number_of.Goals.{then-number-eq0-via-then-number-eq0, then-number-eq0-via-else-number-eq0+then-number-gt-MOST}

pub returns-in_err-first : goal.returns-in_err-first
returns-in_err-first c = rw c.from_residual.ensures (not_of_nothing c.args.text.now c.in_err-first.ensures.cases)

pub returns-in_err-number : goal.returns-in_err-number
returns-in_err-number c =
    rw c.from_residual-in_err-number.ensures
    (not_of_byte c.args.text.now c.in_ok-first.behind.now c.in_ok-first.first.now 0 c.in_ok-first.ensures.cases.0 (omega arith) c.in_err-number.ensures)

pub loop-byte-init : goal.loop-byte-init
loop-byte-init c =
    let is = c.in_ok-number.ensures in
    (first_digit c.args.text.now c.in_ok-first.behind.now c.in_ok-first.first.now c.in_ok-number.number c.in_ok-first.ensures.cases.0 is.0 is.1, omega (arith, is.0))

pub returns-in_err-digit : goal.returns-in_err-digit
returns-in_err-digit c =
    let within = c.loop-byte-test.true in
    rw c.from_residual-in_err-digit.ensures
    (not_of_byte c.args.text.now c.in_ok-first.behind.now c.in_ok-first.first.now (suc c.loop-byte.byte-index) c.in_ok-first.ensures.cases.0 (omega (arith, within)) c.in_err-digit.ensures)

pub returns-then-number-eq0 : goal.returns-then-number-eq0
returns-then-number-eq0 c x is e =
    let within = c.loop-byte-test.true in
    let size = ap length c.in_ok-first.ensures.cases.0 in
    elim c.then-number-eq0.branch [
      | then-number-eq0-via-then-number-eq0 w ↦
          not_of_leading_zero c.args.text.now c.loop-byte.byte-index (ap decimal (sym w.if-number-eq0.true) ∙ c.loop-byte.invariant.0) (omega (arith, within, size)) x is e
      | then-number-eq0-via-else-number-eq0+then-number-gt-MOST w ↦
          not_of_large c.args.text.now (suc c.loop-byte.byte-index) c.loop-byte.number c.loop-byte.invariant.0 c.loop-byte.invariant.1 w.if-number-gt-MOST.true x is e
    ]

pub loop-byte-preserved : goal.loop-byte-preserved
loop-byte-preserved c =
    let is = c.in_ok-digit.ensures in
    let few = c.if-number-gt-MOST.false in (
      next_digit c.args.text.now c.in_ok-first.behind.now c.in_ok-first.first.now c.loop-byte.byte-index c.loop-byte.number c.in_ok-digit.digit c.in_ok-first.ensures.cases.0
          c.loop-byte.invariant.0 c.loop-byte.invariant.1 c.if-number-eq0.false c.loop-byte-test.true is.0 is.1,
      omega (arith, is.0, few),
    )

pub returns-then-number-gt-MOST-2 : goal.returns-then-number-gt-MOST-2
returns-then-number-gt-MOST-2 c x is e =
    not_of_large c.args.text.now (suc c.loop-byte.byte-index) c.loop-byte.number c.loop-byte.invariant.0 c.loop-byte.invariant.1 c.if-number-gt-MOST-2.true x is e
