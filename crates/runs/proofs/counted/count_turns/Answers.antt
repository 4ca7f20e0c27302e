-- Consecutive turns and then one more are the first of those that are left. At the end none is left.
use Rattle.std.proofs.Common.{rules, ◌≡◌, ◌+◌, ◌<◌, ◌≤◌, None, ◌∙◌}
use Rattle.std.proofs.lemmas.Result.{err_from_is_err_and}
use Rattle.runs.specs.Choices.{choice_of, chooser_after, IsTurnOf}
use Rattle.runs.proofs.CountedTurns.{chooser_all_given, chooser_all_made, counted_all_given, counted_all_made, counted_broken, counted_next, counted_none, counted_on}
use Rattle.runs.proofs.KeptThreads.{nothing_kept}
use Rattle.runs.proofs.TurnsOn.{as_many, fewer}
use Rattle.runs.proofs.counted.count_turns.Goals as goal

pub loop-made-init : goal.loop-made-init
loop-made-init c =
    record {
      counted = counted_none c.args.machine.now c.args.chooser.now c.args.most c.args.recording.now;
      enabled = nothing_kept _ _ c.new-kept.ensures.current c.new-kept.ensures.idle;
    }

pub loop-made-preserved : goal.loop-made-preserved
loop-made-preserved c =
    let now = counted_on _ _ _ _ _ _ _ _ _ _ _ _ _ c.loop-made.invariant.counted c.take_consecutive_turns-on.ensures.most c.take_consecutive_turns-on.ensures.taken in
    let below : c.loop-made.made + c.take_consecutive_turns-on.result.times < c.args.most = fewer _ _ _ c.loop-made-test.true c.take_consecutive_turns-on.ensures.most c.if-made-most.false in
    let is : IsTurnOf c.take_consecutive_turns-on.new.machine c.take_consecutive_turns-on.new.chooser c.take_consecutive_turns-on.new.recording c.in-Some._taken c.take_turn.new.machine c.take_turn.new.chooser c.take_turn.new.recording = search rules in
    record { counted = counted_next _ _ _ _ _ _ _ _ _ _ _ _ now below is; enabled = search rules }

pub returns-then-made-most-clause-count : goal.returns-then-made-most-clause-count
returns-then-made-most-clause-count c =
    let now = counted_on _ _ _ _ _ _ _ _ _ _ _ _ _ c.loop-made.invariant.counted c.take_consecutive_turns-on.ensures.most c.take_consecutive_turns-on.ensures.taken in
    let reached : c.args.most ≤ c.loop-made.made + c.take_consecutive_turns-on.result.times = as_many _ _ c.if-made-most.true in
    (counted_all_made _ _ _ _ _ _ _ _ now reached).many

pub returns-then-made-most-clause-state : goal.returns-then-made-most-clause-state
returns-then-made-most-clause-state c =
    let now = counted_on _ _ _ _ _ _ _ _ _ _ _ _ _ c.loop-made.invariant.counted c.take_consecutive_turns-on.ensures.most c.take_consecutive_turns-on.ensures.taken in
    let reached : c.args.most ≤ c.loop-made.made + c.take_consecutive_turns-on.result.times = as_many _ _ c.if-made-most.true in
    (counted_all_made _ _ _ _ _ _ _ _ now reached).state

pub returns-then-made-most-clause-items : goal.returns-then-made-most-clause-items
returns-then-made-most-clause-items c =
    let now = counted_on _ _ _ _ _ _ _ _ _ _ _ _ _ c.loop-made.invariant.counted c.take_consecutive_turns-on.ensures.most c.take_consecutive_turns-on.ensures.taken in
    let reached : c.args.most ≤ c.loop-made.made + c.take_consecutive_turns-on.result.times = as_many _ _ c.if-made-most.true in
    (counted_all_made _ _ _ _ _ _ _ _ now reached).kept

pub returns-then-made-most-clause-chooser : goal.returns-then-made-most-clause-chooser
returns-then-made-most-clause-chooser c =
    let now = counted_on _ _ _ _ _ _ _ _ _ _ _ _ _ c.loop-made.invariant.counted c.take_consecutive_turns-on.ensures.most c.take_consecutive_turns-on.ensures.taken in
    let reached : c.args.most ≤ c.loop-made.made + c.take_consecutive_turns-on.result.times = as_many _ _ c.if-made-most.true in
    chooser_all_made _ _ _ _ _ _ _ _ now reached

pub returns-in_default-clause-count : goal.returns-in_default-clause-count
returns-in_default-clause-count c =
    let now = counted_on _ _ _ _ _ _ _ _ _ _ _ _ _ c.loop-made.invariant.counted c.take_consecutive_turns-on.ensures.most c.take_consecutive_turns-on.ensures.taken in
    let none : choice_of c.take_consecutive_turns-on.new.chooser c.take_consecutive_turns-on.new.machine ≡ None = search rules in
    (counted_all_given _ _ _ _ _ _ _ _ now none).many

pub returns-in_default-clause-state : goal.returns-in_default-clause-state
returns-in_default-clause-state c =
    let now = counted_on _ _ _ _ _ _ _ _ _ _ _ _ _ c.loop-made.invariant.counted c.take_consecutive_turns-on.ensures.most c.take_consecutive_turns-on.ensures.taken in
    let none : choice_of c.take_consecutive_turns-on.new.chooser c.take_consecutive_turns-on.new.machine ≡ None = search rules in
    let same : c.take_turn.new.machine ≡ c.take_consecutive_turns-on.new.machine = search rules in
    same ∙ (counted_all_given _ _ _ _ _ _ _ _ now none).state

pub returns-in_default-clause-items : goal.returns-in_default-clause-items
returns-in_default-clause-items c =
    let now = counted_on _ _ _ _ _ _ _ _ _ _ _ _ _ c.loop-made.invariant.counted c.take_consecutive_turns-on.ensures.most c.take_consecutive_turns-on.ensures.taken in
    let none : choice_of c.take_consecutive_turns-on.new.chooser c.take_consecutive_turns-on.new.machine ≡ None = search rules in
    let same : c.take_turn.new.recording ≡ c.take_consecutive_turns-on.new.recording = search rules in
    same ∙ (counted_all_given _ _ _ _ _ _ _ _ now none).kept

pub returns-in_default-clause-chooser : goal.returns-in_default-clause-chooser
returns-in_default-clause-chooser c =
    let now = counted_on _ _ _ _ _ _ _ _ _ _ _ _ _ c.loop-made.invariant.counted c.take_consecutive_turns-on.ensures.most c.take_consecutive_turns-on.ensures.taken in
    let below : c.loop-made.made + c.take_consecutive_turns-on.result.times < c.args.most = fewer _ _ _ c.loop-made-test.true c.take_consecutive_turns-on.ensures.most c.if-made-most.false in
    let none : choice_of c.take_consecutive_turns-on.new.chooser c.take_consecutive_turns-on.new.machine ≡ None = search rules in
    let later : c.take_turn.new.chooser ≡ chooser_after c.take_consecutive_turns-on.new.chooser c.take_consecutive_turns-on.new.machine = search rules in
    chooser_all_given _ _ _ _ _ _ _ _ _ now below none later

pub returns-in_err-_taken-clause-broken : goal.returns-in_err-_taken-clause-broken
returns-in_err-_taken-clause-broken c =
    let now = counted_on _ _ _ _ _ _ _ _ _ _ _ _ _ c.loop-made.invariant.counted c.take_consecutive_turns-on.ensures.most c.take_consecutive_turns-on.ensures.taken in
    let failed = err_from_is_err_and c.from_residual.result c.from_residual.ensures.1 in
    let untaken = c.in_err-_taken.ensures.untaken in
    rw (failed.1, untaken.0, untaken.2) (counted_broken _ _ _ _ _ _ _ _ _ now untaken.1)

pub returns-clause-count : goal.returns-clause-count
returns-clause-count c = (counted_all_made _ _ _ _ _ _ _ _ c.loop-made.invariant.counted c.loop-made-test.false).many

pub returns-clause-state : goal.returns-clause-state
returns-clause-state c = (counted_all_made _ _ _ _ _ _ _ _ c.loop-made.invariant.counted c.loop-made-test.false).state

pub returns-clause-items : goal.returns-clause-items
returns-clause-items c = (counted_all_made _ _ _ _ _ _ _ _ c.loop-made.invariant.counted c.loop-made-test.false).kept

pub returns-clause-chooser : goal.returns-clause-chooser
returns-clause-chooser c = chooser_all_made _ _ _ _ _ _ _ _ c.loop-made.invariant.counted c.loop-made-test.false
