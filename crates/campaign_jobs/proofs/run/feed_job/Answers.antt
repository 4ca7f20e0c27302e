-- The run of a job follows the chooser of its schedule.
use Rattle.std.proofs.Common.{subst}
use Rattle.program_runs.specs.Judgements.{IsFedWith}
use Rattle.program_runs.specs.Shown.{HasEnding}
use Rattle.campaign_jobs.proofs.JobRuns.{same_shown}
use Rattle.campaign_jobs.proofs.run.feed_job.Goals as goal

pub returns-in-Ok-clause-ending : goal.returns-in-Ok-clause-ending
returns-in-Ok-clause-ending c =
    subst (λ shown. HasEnding shown c.in-Ok.ending) (same_shown c.args.program.now c.args.plan.now c.args.number) (rw c.chooser_of-chooser.ensures at c.in-Ok.ensures.ending)

pub returns-in-Ok-clause-fed : goal.returns-in-Ok-clause-fed
returns-in-Ok-clause-fed c =
    subst (λ shown. IsFedWith shown c.args.checker.now.lines c.feed_program.new.checker) (same_shown c.args.program.now c.args.plan.now c.args.number) (rw c.chooser_of-chooser.ensures at c.in-Ok.ensures.fed)
