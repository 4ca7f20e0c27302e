-- Consecutive turns and then one more are the first of those that are left. At the end none is left.
use Rattle.std.proofs.Common.{rules, ◌≡◌, ◌+◌, ◌<◌, ◌≤◌, None, inl, refl, ◌∙◌}
use Rattle.std.proofs.lemmas.Result.{err_from_is_err_and}
use Rattle.runs.specs.Choices.{choice_of, chooser_after, IsTurnOf}
use Rattle.runs.proofs.ChosenTurns.{all_given, all_made, behind_all_given, behind_all_made, broken_here, taken_next, taken_none, told}
use Rattle.runs.proofs.KeptThreads.{nothing_kept}
use Rattle.runs.proofs.TurnsOn.{as_many, fewer, noted_on, taken_on}
use Rattle.runs.proofs.turns.take_turns.Goals as goal

pub loop-made-init : goal.loop-made-init
loop-made-init c =
    record {
      taken = taken_none c.args.machine.now c.args.chooser.now c.args.most c.args.recording.now _ _ c.new-choices.ensures.items c.new-outcomes.ensures;
      enabled = nothing_kept _ _ c.new-kept.ensures.current c.new-kept.ensures.idle;
    }

pub loop-made-preserved : goal.loop-made-preserved
loop-made-preserved c =
    let now = noted_on _ _ _ _ _ _ _ _ _ _ _ _ _ _ _ _ _ c.loop-made.invariant.taken c.take_consecutive_turns-on.ensures.most c.take_consecutive_turns-on.ensures.taken c.in_ok-put_choices.ensures c.in_ok-push_ran.ensures.ok in
    let below : c.loop-made.made + c.take_consecutive_turns-on.result.times < c.args.most = fewer _ _ _ c.loop-made-test.true c.take_consecutive_turns-on.ensures.most c.if-made-most.false in
    let is : IsTurnOf c.take_consecutive_turns-on.new.machine c.take_consecutive_turns-on.new.chooser c.take_consecutive_turns-on.new.recording (c.in-Some.thread, c.in-Some.outcome) c.take_turn.new.machine c.take_turn.new.chooser c.take_turn.new.recording = search rules in
    record {
      taken = rw (c.in_ok-push.ensures.items, c.in_ok-push-2.ensures.ok) (taken_next _ _ _ _ _ _ _ _ _ _ _ _ _ _ now below is);
      enabled = search rules;
    }

pub returns-in_err-put_choices-clause-broken : goal.returns-in_err-put_choices-clause-broken
returns-in_err-put_choices-clause-broken c =
    let failed = err_from_is_err_and c.from_residual.result c.from_residual.ensures.1 in
    rw failed.1
    (broken_here _ _ _ _ _ _ _ _ _ _ _
    (taken_on _ _ _ _ _ _ _ _ _ _ _ _ _ _ _ c.loop-made.invariant.taken c.take_consecutive_turns-on.ensures.most c.take_consecutive_turns-on.ensures.taken) (inl refl))

pub returns-in_err-push_ran-clause-broken : goal.returns-in_err-push_ran-clause-broken
returns-in_err-push_ran-clause-broken c =
    let failed = err_from_is_err_and c.from_residual-in_err-push_ran.result c.from_residual-in_err-push_ran.ensures.1 in
    rw failed.1
    (broken_here _ _ _ _ _ _ _ _ _ _ _
    (taken_on _ _ _ _ _ _ _ _ _ _ _ _ _ _ _ c.loop-made.invariant.taken c.take_consecutive_turns-on.ensures.most c.take_consecutive_turns-on.ensures.taken) (inl refl))

pub returns-then-made-most-clause-choices : goal.returns-then-made-most-clause-choices
returns-then-made-most-clause-choices c =
    let now = noted_on _ _ _ _ _ _ _ _ _ _ _ _ _ _ _ _ _ c.loop-made.invariant.taken c.take_consecutive_turns-on.ensures.most c.take_consecutive_turns-on.ensures.taken c.in_ok-put_choices.ensures c.in_ok-push_ran.ensures.ok in
    let reached : c.args.most ≤ c.loop-made.made + c.take_consecutive_turns-on.result.times = as_many _ _ c.if-made-most.true in
    c.turns_of.ensures.choices ∙ all_made _ _ _ _ _ _ _ _ _ _ now reached

pub returns-then-made-most-clause-chooser : goal.returns-then-made-most-clause-chooser
returns-then-made-most-clause-chooser c =
    let now = noted_on _ _ _ _ _ _ _ _ _ _ _ _ _ _ _ _ _ c.loop-made.invariant.taken c.take_consecutive_turns-on.ensures.most c.take_consecutive_turns-on.ensures.taken c.in_ok-put_choices.ensures c.in_ok-push_ran.ensures.ok in
    let reached : c.args.most ≤ c.loop-made.made + c.take_consecutive_turns-on.result.times = as_many _ _ c.if-made-most.true in
    behind_all_made _ _ _ _ _ _ _ _ _ _ now reached

pub returns-then-made-most-clause-outcomes : goal.returns-then-made-most-clause-outcomes
returns-then-made-most-clause-outcomes c =
    let now = noted_on _ _ _ _ _ _ _ _ _ _ _ _ _ _ _ _ _ c.loop-made.invariant.taken c.take_consecutive_turns-on.ensures.most c.take_consecutive_turns-on.ensures.taken c.in_ok-put_choices.ensures c.in_ok-push_ran.ensures.ok in
    let ran = told _ _ _ _ _ _ _ _ _ _ _ _ now c.turns_of.ensures.choices c.turns_of.ensures.outcomes in
    ran.0

pub returns-then-made-most-clause-state : goal.returns-then-made-most-clause-state
returns-then-made-most-clause-state c =
    let now = noted_on _ _ _ _ _ _ _ _ _ _ _ _ _ _ _ _ _ c.loop-made.invariant.taken c.take_consecutive_turns-on.ensures.most c.take_consecutive_turns-on.ensures.taken c.in_ok-put_choices.ensures c.in_ok-push_ran.ensures.ok in
    let ran = told _ _ _ _ _ _ _ _ _ _ _ _ now c.turns_of.ensures.choices c.turns_of.ensures.outcomes in
    ran.1

pub returns-then-made-most-clause-items : goal.returns-then-made-most-clause-items
returns-then-made-most-clause-items c =
    let now = noted_on _ _ _ _ _ _ _ _ _ _ _ _ _ _ _ _ _ c.loop-made.invariant.taken c.take_consecutive_turns-on.ensures.most c.take_consecutive_turns-on.ensures.taken c.in_ok-put_choices.ensures c.in_ok-push_ran.ensures.ok in
    let ran = told _ _ _ _ _ _ _ _ _ _ _ _ now c.turns_of.ensures.choices c.turns_of.ensures.outcomes in
    ran.2

pub returns-in_err-thread-clause-broken : goal.returns-in_err-thread-clause-broken
returns-in_err-thread-clause-broken c =
    let now = noted_on _ _ _ _ _ _ _ _ _ _ _ _ _ _ _ _ _ c.loop-made.invariant.taken c.take_consecutive_turns-on.ensures.most c.take_consecutive_turns-on.ensures.taken c.in_ok-put_choices.ensures c.in_ok-push_ran.ensures.ok in
    let failed = err_from_is_err_and c.from_residual-in_err-thread.result c.from_residual-in_err-thread.ensures.1 in
    let untaken = c.in_err-thread.ensures.untaken in
    rw (failed.1, untaken.0, untaken.2) (broken_here _ _ _ _ _ _ _ _ _ _ _ now untaken.1)

pub returns-in_default-clause-choices : goal.returns-in_default-clause-choices
returns-in_default-clause-choices c =
    let now = noted_on _ _ _ _ _ _ _ _ _ _ _ _ _ _ _ _ _ c.loop-made.invariant.taken c.take_consecutive_turns-on.ensures.most c.take_consecutive_turns-on.ensures.taken c.in_ok-put_choices.ensures c.in_ok-push_ran.ensures.ok in
    let none : choice_of c.take_consecutive_turns-on.new.chooser c.take_consecutive_turns-on.new.machine ≡ None = search rules in
    c.turns_of-in_default.ensures.choices ∙ all_given _ _ _ _ _ _ _ _ _ _ now none

pub returns-in_default-clause-chooser : goal.returns-in_default-clause-chooser
returns-in_default-clause-chooser c =
    let now = noted_on _ _ _ _ _ _ _ _ _ _ _ _ _ _ _ _ _ c.loop-made.invariant.taken c.take_consecutive_turns-on.ensures.most c.take_consecutive_turns-on.ensures.taken c.in_ok-put_choices.ensures c.in_ok-push_ran.ensures.ok in
    let below : c.loop-made.made + c.take_consecutive_turns-on.result.times < c.args.most = fewer _ _ _ c.loop-made-test.true c.take_consecutive_turns-on.ensures.most c.if-made-most.false in
    let none : choice_of c.take_consecutive_turns-on.new.chooser c.take_consecutive_turns-on.new.machine ≡ None = search rules in
    let later : c.take_turn.new.chooser ≡ chooser_after c.take_consecutive_turns-on.new.chooser c.take_consecutive_turns-on.new.machine = search rules in
    behind_all_given _ _ _ _ _ _ _ _ _ _ _ now below none later

pub returns-in_default-clause-outcomes : goal.returns-in_default-clause-outcomes
returns-in_default-clause-outcomes c =
    let now = noted_on _ _ _ _ _ _ _ _ _ _ _ _ _ _ _ _ _ c.loop-made.invariant.taken c.take_consecutive_turns-on.ensures.most c.take_consecutive_turns-on.ensures.taken c.in_ok-put_choices.ensures c.in_ok-push_ran.ensures.ok in
    let ran = told _ _ _ _ _ _ _ _ _ _ _ _ now c.turns_of-in_default.ensures.choices c.turns_of-in_default.ensures.outcomes in
    ran.0

pub returns-in_default-clause-state : goal.returns-in_default-clause-state
returns-in_default-clause-state c =
    let now = noted_on _ _ _ _ _ _ _ _ _ _ _ _ _ _ _ _ _ c.loop-made.invariant.taken c.take_consecutive_turns-on.ensures.most c.take_consecutive_turns-on.ensures.taken c.in_ok-put_choices.ensures c.in_ok-push_ran.ensures.ok in
    let ran = told _ _ _ _ _ _ _ _ _ _ _ _ now c.turns_of-in_default.ensures.choices c.turns_of-in_default.ensures.outcomes in
    let same : c.take_turn.new.machine ≡ c.take_consecutive_turns-on.new.machine = search rules in
    same ∙ ran.1

pub returns-in_default-clause-items : goal.returns-in_default-clause-items
returns-in_default-clause-items c =
    let now = noted_on _ _ _ _ _ _ _ _ _ _ _ _ _ _ _ _ _ c.loop-made.invariant.taken c.take_consecutive_turns-on.ensures.most c.take_consecutive_turns-on.ensures.taken c.in_ok-put_choices.ensures c.in_ok-push_ran.ensures.ok in
    let ran = told _ _ _ _ _ _ _ _ _ _ _ _ now c.turns_of-in_default.ensures.choices c.turns_of-in_default.ensures.outcomes in
    let same : c.take_turn.new.recording ≡ c.take_consecutive_turns-on.new.recording = search rules in
    same ∙ ran.2

pub returns-in_err-push-clause-broken : goal.returns-in_err-push-clause-broken
returns-in_err-push-clause-broken c =
    let now = noted_on _ _ _ _ _ _ _ _ _ _ _ _ _ _ _ _ _ c.loop-made.invariant.taken c.take_consecutive_turns-on.ensures.most c.take_consecutive_turns-on.ensures.taken c.in_ok-put_choices.ensures c.in_ok-push_ran.ensures.ok in
    let below : c.loop-made.made + c.take_consecutive_turns-on.result.times < c.args.most = fewer _ _ _ c.loop-made-test.true c.take_consecutive_turns-on.ensures.most c.if-made-most.false in
    let is : IsTurnOf c.take_consecutive_turns-on.new.machine c.take_consecutive_turns-on.new.chooser c.take_consecutive_turns-on.new.recording (c.in-Some.thread, c.in-Some.outcome) c.take_turn.new.machine c.take_turn.new.chooser c.take_turn.new.recording = search rules in
    let failed = err_from_is_err_and c.from_residual-in_err-push.result c.from_residual-in_err-push.ensures.1 in
    rw failed.1
    (broken_here _ _ _ _ _ _ _ _ _ _ _
    (taken_next _ _ _ _ _ _ _ _ _ _ _ _ _ _ now below is) (inl refl))

pub returns-in_err-push-2-clause-broken : goal.returns-in_err-push-2-clause-broken
returns-in_err-push-2-clause-broken c =
    let now = noted_on _ _ _ _ _ _ _ _ _ _ _ _ _ _ _ _ _ c.loop-made.invariant.taken c.take_consecutive_turns-on.ensures.most c.take_consecutive_turns-on.ensures.taken c.in_ok-put_choices.ensures c.in_ok-push_ran.ensures.ok in
    let below : c.loop-made.made + c.take_consecutive_turns-on.result.times < c.args.most = fewer _ _ _ c.loop-made-test.true c.take_consecutive_turns-on.ensures.most c.if-made-most.false in
    let is : IsTurnOf c.take_consecutive_turns-on.new.machine c.take_consecutive_turns-on.new.chooser c.take_consecutive_turns-on.new.recording (c.in-Some.thread, c.in-Some.outcome) c.take_turn.new.machine c.take_turn.new.chooser c.take_turn.new.recording = search rules in
    let failed = err_from_is_err_and c.from_residual-in_err-push-2.result c.from_residual-in_err-push-2.ensures.1 in
    rw failed.1
    (broken_here _ _ _ _ _ _ _ _ _ _ _
    (taken_next _ _ _ _ _ _ _ _ _ _ _ _ _ _ now below is) (inl refl))

pub returns-clause-choices : goal.returns-clause-choices
returns-clause-choices c =
    c.turns_of-2.ensures.choices ∙ all_made _ _ _ _ _ _ _ _ _ _ c.loop-made.invariant.taken c.loop-made-test.false

pub returns-clause-chooser : goal.returns-clause-chooser
returns-clause-chooser c =
    behind_all_made _ _ _ _ _ _ _ _ _ _ c.loop-made.invariant.taken c.loop-made-test.false
