use Rattle.std.proofs.Common.{None}
use Rattle.std.proofs.lemmas.Result.{err_from_is_err_and}
use Rattle.jvms_file.specs.Instructions.{cases_at}
use Rattle.insn.proofs.SwitchLists.{cases_go_on, cases_stop, cases_done}
use Rattle.insn.proofs.switches.cases_at.Goals as goal

pub returns-in_err-case : goal.returns-in_err-case
returns-in_err-case c =
    let p = err_from_is_err_and c.from_residual.result c.from_residual.ensures.1 in
    rw (p.1, p.2) (cases_stop c.in_err-case.field-0.0 c.args.cut c.args.pc c.loop.cases c.args.count c.loop.counter c.loop.last c.loop.rest.now (cases_at c.args.cut c.args.pc c.args.count None c.args.bytes.now) c.loop-test.true c.in_err-case.ensures c.loop.invariant)

pub loop-preserved : goal.loop-preserved
loop-preserved c =
    rw (c.in_ok-push.ensures.ok, c.value_of-last.ensures) (cases_go_on c.args.cut c.args.pc c.loop.cases c.args.count c.loop.counter c.loop.last c.loop.rest.now c.in_ok-case.case c.in_ok-case.behind.now (cases_at c.args.cut c.args.pc c.args.count None c.args.bytes.now) c.loop-test.true c.in_ok-case.ensures c.loop.invariant)

pub returns : goal.returns
returns c = cases_done c.args.cut c.args.pc c.loop.cases c.args.count c.loop.counter c.loop.last c.loop.rest.now (cases_at c.args.cut c.args.pc c.args.count None c.args.bytes.now) c.loop-test.false c.loop.invariant
