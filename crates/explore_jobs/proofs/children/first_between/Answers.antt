use Rattle.std.proofs.Common.{sym, ◌∙◌}
use Rattle.departures.proofs.Walks.{first_found, first_none, first_skip}
use Rattle.explore_jobs.specs.Children.{turns_in}
use Rattle.explore_jobs.proofs.children.first_between.Goals as goal

pub loop-thread-preserved : goal.loop-thread-preserved
loop-thread-preserved c =
    let m = c.args.machine.now in
    sym (first_skip (turns_in m) m.state c.loop-thread.thread c.args.to c.loop-thread-test.true (sym c.can_take.ensures ∙ c.if-can_take.false)) ∙ c.loop-thread.invariant

pub returns-then-can_take : goal.returns-then-can_take
returns-then-can_take c =
    let m = c.args.machine.now in
    sym (first_found (turns_in m) m.state c.loop-thread.thread c.args.to c.loop-thread-test.true (sym c.can_take.ensures ∙ c.if-can_take.true)) ∙ c.loop-thread.invariant

pub returns : goal.returns
returns c =
    let m = c.args.machine.now in
    sym (first_none (turns_in m) m.state c.loop-thread.thread c.args.to c.loop-thread-test.false) ∙ c.loop-thread.invariant
