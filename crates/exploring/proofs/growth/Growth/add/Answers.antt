use Rattle.std.proofs.Common.{ap, length, take, ◌∙◌, ◌+◌, ◌-◌}
use Rattle.std.proofs.lemmas.List.{take_all}
use Rattle.exploring.proofs.Grown.{all_added}
use Rattle.exploring.specs.Levels.{LevelJobs}
use Rattle.exploring.proofs.growth.Growth.add.Goals as goal

pub returns-clause-grows : goal.returns-clause-grows
returns-clause-grows c =
    λ jobs is.
    all_added c.args.room jobs c.args.self.now (record { jobs = c.loop-departure.self.jobs; count = c.in-Some.count }) c.args.parent.now c.args.added.now
    (take c.loop-departure.departure-index (take c.min-kept.result c.args.added.now)) c.saturating_sub-free.result c.min-kept.result is
    (c.saturating_sub-free.ensures ∙ ap (λ n. c.args.room - n) c.len.ensures) c.min-kept.ensures
    (take_all c.loop-departure.departure-index (take c.min-kept.result c.args.added.now) c.loop-departure-test.false)
    (ap (λ (j : LevelJobs). j.jobs) c.loop-departure.invariant.0)
    (c.in-Some.ensures.1 ∙ ap (λ n. n + length c.args.added.now) c.loop-departure.invariant.1)
