-- The checker was fed the items of the job.
use Rattle.std.proofs.Common.{ap, ◌∙◌, subst}
use Rattle.program_runs.specs.atom_graph.Checking.{Fed}
use Rattle.program_runs.specs.Judgements.{IsFedWith}
use Rattle.campaign_jobs.specs.Reports.{job_shown}
use Rattle.campaign_jobs.proofs.JobResults.{serial_is}
use Rattle.campaign_jobs.proofs.run.serial_of.Goals as goal

pub returns : goal.returns
returns c =
    let shown = job_shown c.args.program.now c.args.plan.now c.args.number in
    let lines = ap (λ (f : Fed). f.lines) c.in_ok-checker.ensures ∙ c.in_ok-copy.ensures in
    let fed = subst (λ l. IsFedWith shown l c.feed_job.new.checker) lines c.in_ok-feed_job.ensures.fed in
    serial_is (λ v. v.items) c.serial.result c.args.plan.now.spec shown c.feed_job.new.checker fed c.serial.ensures
