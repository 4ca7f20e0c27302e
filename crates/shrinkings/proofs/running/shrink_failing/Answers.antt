-- The run of what is left fails in the same way, since that of all departures does.
use Rattle.std.proofs.Common.{List, subst, true, ◌≡◌}
use Rattle.departures.specs.declared.departure.Departure.{Departure}
use Rattle.explore_jobs.specs.Plans.{job_shown}
use Rattle.judge.specs.program_runs.Shown.{HasEnding}
use Rattle.shrinking.specs.Failures.{fails_by}
use Rattle.shrinkings.proofs.running.shrink_failing.Goals as goal

pub returns-clause-left : goal.returns-clause-left
returns-clause-left c =
    let program = c.args.program.now in
    let plan = c.args.plan.now in
    let way = c.args.failure in
    let shrunk = c.in_ok-shrunk.shrunk in
    let is = c.in_ok-shrunk.ensures in
    let fails : fails_by plan.most way shrunk.fate ≡ true =
    c.a_job_has_one_test.ensures program plan way c.args.departures.items (fails_by plan.most way shrunk.fate) true is.test c.requires.fails in
    record {
      part = is.part;
      fate = is.fate;
      ending = subst (λ (ds : List Departure). HasEnding (job_shown program plan ds) c.in_ok-ending.ending) c.as_slice.ensures.value c.in_ok-ending.ensures;
      fails = fails;
      least = is.least;
      stops = λ off. is.stops off fails;
    }
