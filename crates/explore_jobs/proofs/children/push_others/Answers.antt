use Rattle.std.proofs.Common.{length, subst, ◌<◌, ◌≤◌}
use Rattle.departures.proofs.Walks.{others_end, others_step, part_end, part_step}
use Rattle.explore_jobs.specs.Children.{turns_in, with_each}
use Rattle.explore_jobs.proofs.children.push_others.Goals as goal

pub loop-thread-preserved : goal.loop-thread-preserved
loop-thread-preserved c = λ stays ds.
    let m = c.args.machine.now in
    let less = subst (λ n. c.loop-thread.thread < n) c.thread_count-thread-end.ensures c.loop-thread-test.true in
    let step = others_step (turns_in m) stays ds c.args.place.position m.state c.args.place.choice c.loop-thread.thread (length m.state.threads) less in
    part_step (with_each ds c.loop-thread.added.items) (with_each ds c.push_other.new.added.items) _ _ _ _ (c.loop-thread.invariant stays ds) step (c.in_ok-push_other.ensures ds)

pub returns : goal.returns
returns c = λ stays ds.
    let m = c.args.machine.now in
    let past = subst (λ n. n ≤ c.loop-thread.thread) c.thread_count-thread-end.ensures c.loop-thread-test.false in
    part_end (with_each ds c.loop-thread.added.items) _ _ (c.loop-thread.invariant stays ds)
    (others_end (turns_in m) stays ds c.args.place.position m.state c.args.place.choice c.loop-thread.thread (length m.state.threads) past)
