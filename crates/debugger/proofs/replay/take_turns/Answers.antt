use Rattle.std.proofs.Common.{length, Some, sym, ap, ◌∙◌, arith}
use Rattle.machine.specs.Machine.{Machine, transition_of, with_state}
use Rattle.trace.specs.Recording.{with_items}
use Rattle.debugger.proofs.TurnLaws.{none_ran, ran_state, ran_items, ran_last, one_state, one_items, one_last}
use Rattle.debugger.proofs.replay.take_turns.Goals as goal

pub returns-then-count-gt0-clause-outcome : goal.returns-then-count-gt0-clause-outcome
returns-then-count-gt0-clause-outcome c =
    let m = c.args.machine.now in
    ran_last c.step_consecutive-count.result c.args.t (length m.state.threads) m c.step_consecutive-count.new.self c.args.recording.now c.step_consecutive-count.new.recording c.if-count-gt0.true c.step_consecutive-count.ensures.ran

pub returns-then-count-gt0-clause-state : goal.returns-then-count-gt0-clause-state
returns-then-count-gt0-clause-state c =
    let m = c.args.machine.now in
    ran_state c.step_consecutive-count.result c.args.t (length m.state.threads) m c.step_consecutive-count.new.self c.args.recording.now c.step_consecutive-count.new.recording c.step_consecutive-count.ensures.ran

pub returns-then-count-gt0-clause-items : goal.returns-then-count-gt0-clause-items
returns-then-count-gt0-clause-items c =
    let m = c.args.machine.now in
    ran_items c.step_consecutive-count.result c.args.t (length m.state.threads) m c.step_consecutive-count.new.self c.args.recording.now c.step_consecutive-count.new.recording c.step_consecutive-count.ensures.ran

pub returns-clause-outcome : goal.returns-clause-outcome
returns-clause-outcome c =
    let m = c.args.machine.now in
    let t = c.args.t in
    let none = none_ran c.step_consecutive-count.result t (length m.state.threads) m c.step_consecutive-count.new.self c.args.recording.now c.step_consecutive-count.new.recording (omega (arith, c.if-count-gt0.false)) c.step_consecutive-count.ensures.ran in
    one_last t m ∙ ap Some (ap (λ (x : Machine). (transition_of x t).outcome) (sym none.0) ∙ sym c.in_ok-outcome.ensures.outcome)

pub returns-clause-state : goal.returns-clause-state
returns-clause-state c =
    let m = c.args.machine.now in
    let t = c.args.t in
    let none = none_ran c.step_consecutive-count.result t (length m.state.threads) m c.step_consecutive-count.new.self c.args.recording.now c.step_consecutive-count.new.recording (omega (arith, c.if-count-gt0.false)) c.step_consecutive-count.ensures.ran in
    c.in_ok-outcome.ensures.state ∙ ap (λ (x : Machine). with_state x (transition_of x t).state) none.0 ∙ ap (λ s. with_state m s) (sym (one_state t m))

pub returns-clause-items : goal.returns-clause-items
returns-clause-items c =
    let m = c.args.machine.now in
    let t = c.args.t in
    let none = none_ran c.step_consecutive-count.result t (length m.state.threads) m c.step_consecutive-count.new.self c.args.recording.now c.step_consecutive-count.new.recording (omega (arith, c.if-count-gt0.false)) c.step_consecutive-count.ensures.ran in
    c.in_ok-outcome.ensures.items ∙ ap (λ r. with_items r (transition_of c.step_consecutive-count.new.self t).items) none.1 ∙ ap (λ (x : Machine). with_items c.args.recording.now (transition_of x t).items) none.0
    ∙ ap (with_items c.args.recording.now) (sym (one_items t m))
