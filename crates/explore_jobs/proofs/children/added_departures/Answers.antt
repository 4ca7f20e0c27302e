use Rattle.std.proofs.Common.{sym, ◌∙◌}
use Rattle.departures.proofs.Walks.{ahead_end, ahead_none, children_end, children_to, step_to}
use Rattle.explore_jobs.specs.Children.{stays_in, turns_in, with_each}
use Rattle.explore_jobs.proofs.children.added_departures.Goals as goal
use Rattle.explore_jobs.proofs.Taken.{default_in, here_in, taken_state, taken_machine}

pub returns-in_default : goal.returns-in_default
returns-in_default c =
    let m = c.args.machine.now in
    let l = c.loop-position in
    let none = ahead_none (turns_in m) l.position c.args.most l.machine.state l.last l.left.now (sym (default_in m l.machine l.last l.invariant.machine c.default_of.ensures) ∙ c.in_default.is) in
    children_end (turns_in m) (stays_in c.args.within.now m) c.args.departures.now l.position l.machine.state l.last _ l.left.now (with_each c.args.departures.now l.added.items) _ l.invariant.children none

pub loop-position-preserved : goal.loop-position-preserved
loop-position-preserved c =
    let m = c.args.machine.now in
    let l = c.loop-position in
    let ds = c.args.departures.now in
    let t = c.choose-choice.result.thread in
    let next = c.step_recorded.new.self in
    let moved = taken_state m l.machine t next l.invariant.machine c.in_ok-step_recorded.ensures.state in
    let step = step_to (turns_in m) l.position c.args.most l.machine.state l.last l.left.now c.choose-choice.result.left.now c.in-Some.usual t next.state c.loop-position-test.true
    (sym (default_in m l.machine l.last l.invariant.machine c.default_of.ensures) ∙ c.in-Some.is) c.choose-choice.ensures.thread c.choose-choice.ensures.left moved in
    record {
      machine = taken_machine m l.machine t next l.invariant.machine c.in_ok-step_recorded.ensures.state;
      children = children_to (turns_in m) (stays_in c.args.within.now m) ds l.position l.machine.state l.last t next.state _ _ l.left.now c.choose-choice.result.left.now _ _ _ moved l.invariant.children step c.choose-choice.ensures.left
          (here_in c.args.within.now m l.machine _ _ ds l.left.now l.position l.last t l.invariant.machine (c.in_ok-push_here.ensures ds));
    }

pub returns : goal.returns
returns c =
    let m = c.args.machine.now in
    let l = c.loop-position in
    let none = ahead_end (turns_in m) l.position c.args.most l.machine.state l.last l.left.now c.loop-position-test.false in
    children_end (turns_in m) (stays_in c.args.within.now m) c.args.departures.now l.position l.machine.state l.last _ l.left.now (with_each c.args.departures.now l.added.items) _ l.invariant.children none
