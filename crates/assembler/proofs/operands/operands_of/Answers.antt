-- Each iteration skips a label, or appends the index of an instruction to those before it.
use Rattle.std.proofs.Common.{◌≡◌, ◌+◌, [], ◌∷◌, drop, ◌∙◌, ap, arith}
use Rattle.std.proofs.lemmas.Result.{err_from_is_err_and}
use Rattle.const_pool.specs.Interning.{pool_of}
use Rattle.jasmin.specs.declared.source.CodeItem.{CodeItem}
use Rattle.jasmin.specs.declared.source.CodeItem.TheVariants as item
use Rattle.assembly.specs.Operands.{operands_onto}
use Rattle.assembler.proofs.Instances.{label_goes_on, operand_goes_on, operand_stops, operands_done, operands_count}
use Rattle.assembler.proofs.Loops.{at_front, none_left}
use Rattle.assembler.proofs.operands.operands_of.Goals as goal
use Rattle.assembler.proofs.operands.operands_of.Goals.{in-Label, in-Operation+in_ok-number-in-Operation+in_ok-push-in-Operation}

pub returns-in_err-number-in-Operation-clause-exact : goal.returns-in_err-number-in-Operation-clause-exact
returns-in_err-number-in-Operation-clause-exact c =
    let p = err_from_is_err_and c.from_residual.result c.from_residual.ensures.1 in
    let code = c.args.code.now in
    let i = c.loop-item.item-index in
    let rest = drop (i + 1) code in
    let o = c.in-Operation.operation in
    let here : drop i code ≡ item.Operation o ∷ rest = at_front code i c.item-item.result c.loop-item-test.true c.item-item.is ∙ ap (λ (x : CodeItem). x ∷ rest) c.in-Operation.is in
    rw (p.1, p.2) (operand_stops c.in_err-number-in-Operation.field-0.0 c.loop-item.numbers (pool_of c.loop-item.entries) o (drop i code) rest (operands_onto [] (pool_of c.args.entries.now) code) here c.in_err-number-in-Operation.ensures c.loop-item.invariant)

pub loop-item-preserved : goal.loop-item-preserved
loop-item-preserved c =
    let code = c.args.code.now in
    let i = c.loop-item.item-index in
    let rest = drop (i + 1) code in
    let seen = c.loop-item.numbers in
    let pool = pool_of c.loop-item.entries in
    let whole = operands_onto [] (pool_of c.args.entries.now) code in
    let front : drop i code ≡ c.item-item.result ∷ rest = at_front code i c.item-item.result c.loop-item-test.true c.item-item.is in
    elim c.match-item.branch [
      | in-Label w ↦
          let here : drop i code ≡ item.Label w.in-Label.field-0 ∷ rest = front ∙ ap (λ (x : CodeItem). x ∷ rest) w.in-Label.is in
          rw (w.numbers-is, w.entries-is) (label_goes_on seen pool w.in-Label.field-0 (drop i code) rest whole here c.loop-item.invariant)
      | in-Operation+in_ok-number-in-Operation+in_ok-push-in-Operation w ↦
          let o = w.in-Operation.operation in
          let here : drop i code ≡ item.Operation o ∷ rest = front ∙ ap (λ (x : CodeItem). x ∷ rest) w.in-Operation.is in
          rw (w.numbers-is, w.entries-is, w.in_ok-push-in-Operation.ensures.ok)
          (operand_goes_on seen pool (pool_of w.operand_entry.new.entries) o w.in_ok-number-in-Operation.number (drop i code) rest whole here w.in_ok-number-in-Operation.ensures c.loop-item.invariant)
    ]

pub returns-clause-exact : goal.returns-clause-exact
returns-clause-exact c =
    let code = c.args.code.now in
    let i = c.loop-item.item-index in
    operands_done c.loop-item.numbers (pool_of c.loop-item.entries) (drop i code) (operands_onto [] (pool_of c.args.entries.now) code) (none_left code i c.loop-item-test.false) c.loop-item.invariant

pub returns-clause-one_each : goal.returns-clause-one_each
returns-clause-one_each c =
    let code = c.args.code.now in
    let i = c.loop-item.item-index in
    let whole = operands_onto [] (pool_of c.args.entries.now) code in
    let done = operands_done c.loop-item.numbers (pool_of c.loop-item.entries) (drop i code) whole (none_left code i c.loop-item-test.false) c.loop-item.invariant in
    omega (arith, operands_count [] (pool_of c.args.entries.now) code c.loop-item.numbers (pool_of c.loop-item.entries) done)
