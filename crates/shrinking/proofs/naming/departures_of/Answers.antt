-- Each choice is named, and its turn is taken.
use Rattle.std.proofs.Common.{sym, ◌∙◌}
use Rattle.explore_jobs.proofs.Taken.{taken_machine}
use Rattle.shrinking.proofs.Named.{named_all, named_most, named_on}
use Rattle.shrinking.proofs.naming.departures_of.Goals as goal

pub loop-position-preserved : goal.loop-position-preserved
loop-position-preserved c =
    let m = c.args.machine.now in
    let l = c.loop-position in
    let t = c.in-Some.thread in
    let after = c.step_recorded.new.self in
    record {
      machine = taken_machine m l.machine t after l.invariant.machine c.in_ok-step_recorded.ensures.state;
      named = named_on m l.machine after l.chooser c.next.new.self l.position c.args.most l.last t c.default_of-default.result l.departures.items c.push_named.new.departures.items _
          c.loop-position-test.true l.invariant.machine c.default_of-default.ensures (sym c.next.ensures.choice ∙ c.in-Some.is) c.next.ensures.after
          c.in_ok-step_recorded.ensures.state c.in_ok-push_named.ensures l.invariant.named;
    }

pub returns-in_default : goal.returns-in_default
returns-in_default c =
    let l = c.loop-position in
    named_all c.args.machine.now l.machine l.chooser l.position c.args.most l.last l.departures.items _ (sym c.next.ensures.choice ∙ c.in_default.is) l.invariant.named

pub returns : goal.returns
returns c =
    let l = c.loop-position in
    named_most c.args.machine.now l.machine l.chooser l.position c.args.most l.last l.departures.items _ c.loop-position-test.false l.invariant.named
