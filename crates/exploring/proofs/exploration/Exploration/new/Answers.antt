use Rattle.std.proofs.Common.{List, length, subst, sym, ap, ◌∙◌, ◌≡◌, true, ℕ}
use Rattle.explore_jobs.specs.declared.fate.Fate.{Fate}
use Rattle.exploring.proofs.Whole.{way_begins}
use Rattle.exploring.specs.Explorations.{IsOnWay, first_jobs}
use Rattle.exploring.specs.Levels.{LevelJobs}
use Rattle.exploring.proofs.exploration.Exploration.new.Goals as goal

pub invariant_of-result : goal.invariant_of-result
invariant_of-result c =
    let program = c.args.program.now in
    let plan = c.args.plan.now in
    let count : c.len-count.result ≡ length (first_jobs plan.part) = c.len-count.ensures ∙ ap (λ (js : LevelJobs). length js.jobs) c.first_jobs-jobs.ensures in
    subst (λ (js : LevelJobs). IsOnWay (record { program = program; plan = plan; jobs = js; count = c.len-count.result; fates = c.new.result.items; is_good_below = true })) (sym c.first_jobs-jobs.ensures)
    (subst (λ (n : ℕ). IsOnWay (record { program = program; plan = plan; jobs = record { each = 0; jobs = first_jobs plan.part }; count = n; fates = c.new.result.items; is_good_below = true })) (sym count)
    (subst (λ (fates : List Fate). IsOnWay (record { program = program; plan = plan; jobs = record { each = 0; jobs = first_jobs plan.part }; count = length (first_jobs plan.part); fates = fates; is_good_below = true })) (sym c.new.ensures.items)
    (way_begins program plan c.requires.fits)))
