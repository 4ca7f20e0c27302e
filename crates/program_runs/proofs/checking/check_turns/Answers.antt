-- Turns that were taken some at a time are all that the chooser gives.
use Rattle.std.proofs.Common.{◌+◌, ◌-◌, ◌≤◌, subst, arith}
use Rattle.runs.proofs.ChosenTurns.{choices_are_few}
use Rattle.program_runs.proofs.Checked.{AreAllChecked, last_taken, may_be_checked, more_checked, more_taken, none_taken}
use Rattle.program_runs.proofs.checking.check_turns.Goals as goal

pub loop-taken-init : goal.loop-taken-init
loop-taken-init c =
    (c.new-trace.ensures, none_taken c.args.machine.now c.args.chooser.now c.args.checker.now c.turns-most.result)

pub check_some-requires-clause-fed : goal.check_some-requires-clause-fed
check_some-requires-clause-fed c =
    let asked = c.min-asked.ensures in
    let fits : c.min-asked.result ≤ c.turns-most.result - c.loop-taken.taken = omega arith in
    may_be_checked _ _ _ _ c.loop-taken.taken c.min-asked.result _ _ _ c.requires.opened c.requires.fresh c.turns-most.ensures.within fits c.loop-taken.invariant.1

pub overflow_add-taken : goal.overflow_add-taken
overflow_add-taken c =
    let within = c.loop-taken.invariant.1.within in
    let most = c.turns-most.ensures.within in
    let count = c.in_ok-turns.ensures.count in
    let few = choices_are_few c.min-asked.result c.loop-taken.chooser c.loop-taken.machine in
    let asked = c.min-asked.ensures in
    omega arith

pub returns-then-turns-asked-clause-count : goal.returns-then-turns-asked-clause-count
returns-then-turns-asked-clause-count c =
    let asked = c.min-asked.ensures in
    let fits : c.min-asked.result ≤ c.turns-most.result - c.loop-taken.taken = omega arith in
    let checked = more_checked _ _ _ _ _ _ _ _ _ _ _ _ c.loop-taken.invariant.1 c.in_ok-turns.ensures.state c.in_ok-turns.ensures.chooser c.in_ok-turns.ensures.fed in
    let all = last_taken _ _ _ _ _ _ _ _ _ _ _ _ _ c.loop-taken.invariant.1 fits c.if-turns-asked.true c.in_ok-turns.ensures.count checked in
    let whole = subst (λ n. AreAllChecked c.args.machine.now c.args.chooser.now c.args.checker.now n (c.loop-taken.taken + c.in_ok-turns.turns) c.check_some.new.machine c.check_some.new.chooser c.check_some.new.checker) c.turns-most.ensures.turns all in
    whole.count

pub returns-then-turns-asked-clause-chooser : goal.returns-then-turns-asked-clause-chooser
returns-then-turns-asked-clause-chooser c =
    let asked = c.min-asked.ensures in
    let fits : c.min-asked.result ≤ c.turns-most.result - c.loop-taken.taken = omega arith in
    let checked = more_checked _ _ _ _ _ _ _ _ _ _ _ _ c.loop-taken.invariant.1 c.in_ok-turns.ensures.state c.in_ok-turns.ensures.chooser c.in_ok-turns.ensures.fed in
    let all = last_taken _ _ _ _ _ _ _ _ _ _ _ _ _ c.loop-taken.invariant.1 fits c.if-turns-asked.true c.in_ok-turns.ensures.count checked in
    let whole = subst (λ n. AreAllChecked c.args.machine.now c.args.chooser.now c.args.checker.now n (c.loop-taken.taken + c.in_ok-turns.turns) c.check_some.new.machine c.check_some.new.chooser c.check_some.new.checker) c.turns-most.ensures.turns all in
    whole.checked.chooser_is

pub returns-then-turns-asked-clause-state : goal.returns-then-turns-asked-clause-state
returns-then-turns-asked-clause-state c =
    let asked = c.min-asked.ensures in
    let fits : c.min-asked.result ≤ c.turns-most.result - c.loop-taken.taken = omega arith in
    let checked = more_checked _ _ _ _ _ _ _ _ _ _ _ _ c.loop-taken.invariant.1 c.in_ok-turns.ensures.state c.in_ok-turns.ensures.chooser c.in_ok-turns.ensures.fed in
    let all = last_taken _ _ _ _ _ _ _ _ _ _ _ _ _ c.loop-taken.invariant.1 fits c.if-turns-asked.true c.in_ok-turns.ensures.count checked in
    let whole = subst (λ n. AreAllChecked c.args.machine.now c.args.chooser.now c.args.checker.now n (c.loop-taken.taken + c.in_ok-turns.turns) c.check_some.new.machine c.check_some.new.chooser c.check_some.new.checker) c.turns-most.ensures.turns all in
    whole.checked.machine_is

pub returns-then-turns-asked-clause-fed : goal.returns-then-turns-asked-clause-fed
returns-then-turns-asked-clause-fed c =
    let asked = c.min-asked.ensures in
    let fits : c.min-asked.result ≤ c.turns-most.result - c.loop-taken.taken = omega arith in
    let checked = more_checked _ _ _ _ _ _ _ _ _ _ _ _ c.loop-taken.invariant.1 c.in_ok-turns.ensures.state c.in_ok-turns.ensures.chooser c.in_ok-turns.ensures.fed in
    let all = last_taken _ _ _ _ _ _ _ _ _ _ _ _ _ c.loop-taken.invariant.1 fits c.if-turns-asked.true c.in_ok-turns.ensures.count checked in
    let whole = subst (λ n. AreAllChecked c.args.machine.now c.args.chooser.now c.args.checker.now n (c.loop-taken.taken + c.in_ok-turns.turns) c.check_some.new.machine c.check_some.new.chooser c.check_some.new.checker) c.turns-most.ensures.turns all in
    whole.checked.fed_is

pub loop-taken-preserved : goal.loop-taken-preserved
loop-taken-preserved c =
    let asked = c.min-asked.ensures in
    let fits : c.min-asked.result ≤ c.turns-most.result - c.loop-taken.taken = omega arith in
    let few = choices_are_few c.min-asked.result c.loop-taken.chooser c.loop-taken.machine in
    let count = c.in_ok-turns.ensures.count in
    let most : c.in_ok-turns.turns ≤ c.min-asked.result = omega arith in
    let checked = more_checked _ _ _ _ _ _ _ _ _ _ _ _ c.loop-taken.invariant.1 c.in_ok-turns.ensures.state c.in_ok-turns.ensures.chooser c.in_ok-turns.ensures.fed in
    (c.in_ok-turns.ensures.empty, more_taken _ _ _ _ _ _ _ _ _ _ _ _ _ c.loop-taken.invariant.1 fits c.if-turns-asked.false c.in_ok-turns.ensures.count most checked)
