use Rattle.std.proofs.Common.{◌+◌, sym, subst, arith}
use Rattle.exploration_joins.proofs.Sorted.{IsNext, ended, keeps, passed, takes}
use Rattle.exploration_joins.proofs.numbers.first_missing.Goals as goal

pub returns-then-number-next : goal.returns-then-number-next
returns-then-number-next c =
    passed c.args.numbers.now c.loop-number.number-index c.loop-number.next c.requires c.loop-number-test.true c.if-number-next.true c.loop-number.invariant

pub loop-number-preserved : goal.loop-number-preserved
loop-number-preserved c =
    let xs = c.args.numbers.now in
    let k = c.loop-number.number-index in
    let next = c.loop-number.next in
    elim c.if-number-next-2.branch [
      | goal.then-number-next-2 w ↦ subst (IsNext xs (k + 1)) (sym w.next-is) (takes xs k next c.loop-number-test.true c.loop-number.invariant w.if-number-next-2.true)
      | goal.else-number-next-2 w ↦ subst (IsNext xs (k + 1)) (sym w.next-is) (keeps xs k next c.loop-number.invariant (omega (arith, c.if-number-next.false, w.if-number-next-2.false)))
    ]

pub returns : goal.returns
returns c = ended c.args.numbers.now c.loop-number.number-index c.loop-number.next c.loop-number-test.false c.loop-number.invariant
