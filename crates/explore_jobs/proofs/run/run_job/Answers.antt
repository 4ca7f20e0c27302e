-- The checker was fed the items of the job.
use Rattle.std.proofs.Common.{ap, ◌∙◌, subst}
use Rattle.std.specs.Prelude.{nat_lt}
use Rattle.atom_graph.specs.Checking.{Fed}
use Rattle.explore_jobs.proofs.Fated.{fate_is}
use Rattle.explore_jobs.specs.Plans.{job_shown}
use Rattle.campaign_jobs.specs.program_runs.Judgements.{IsFedWith}
use Rattle.explore_jobs.proofs.run.run_job.Goals as goal

pub returns : goal.returns
returns c =
    let shown = job_shown c.args.program.now c.args.plan.now c.args.departures.now in
    let lines = ap (λ (f : Fed). f.lines) c.in_ok-checker.ensures ∙ c.in_ok-copy.ensures in
    let fed = subst (λ l. IsFedWith shown l c.feed_job.new.checker) lines c.in_ok-ending.ensures.fed in
    rw c.atomicity_of.ensures (∣ fate_is c.args.plan.now.spec shown c.in_ok-ending.ending c.feed_job.new.checker c.in_ok-verdict.field-0 c.counts.result.events (nat_lt 0 c.len.result) c.in_ok-ending.ensures.ending fed c.in_ok-verdict.ensures c.counts.ensures.events (ap (nat_lt 0) c.len.ensures) ∣₁)
