-- The checker was fed the items of the job.
use Rattle.std.proofs.Common.{ap, ◌∙◌, subst}
use Rattle.program_runs.specs.atom_graph.Checking.{Fed}
use Rattle.program_runs.specs.Judgements.{IsFedWith}
use Rattle.campaign_jobs.specs.Reports.{job_shown}
use Rattle.campaign_jobs.proofs.JobResults.{result_is}
use Rattle.campaign_jobs.proofs.run.run_job.Goals as goal

pub invariant_of-result : goal.invariant_of-result
invariant_of-result c =
    let shown = job_shown c.args.program.now c.args.plan.now c.args.number in
    let lines = ap (λ (f : Fed). f.lines) c.in_ok-checker.ensures ∙ c.in_ok-copy.ensures in
    let fed = subst (λ l. IsFedWith shown l c.feed_job.new.checker) lines c.in_ok-ending.ensures.fed in
    rw c.atomicity_of.ensures record {
      right = ∣ result_is c.args.plan.now.spec shown c.in_ok-ending.ending c.feed_job.new.checker c.in_ok-verdict.field-0 c.counts.result.events c.in_ok-ending.ensures.ending fed c.in_ok-verdict.ensures c.counts.ensures.events ∣₁;
    }
