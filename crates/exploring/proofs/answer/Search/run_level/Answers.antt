use Rattle.std.proofs.Common.{ap, length, subst, sym, ◌-◌, ◌<◌, ◌∙◌, ◌++◌, ◌∷◌, [], ◌≡◌}
use Rattle.std.specs.Prelude.{IfSome, Option, is_some, min, ◌⊎◌}
use Rattle.std.specs.declared.alloc.Global.{Global}
use Rattle.std.specs.declared.vec.Vec.{Vec}
use Rattle.exploring.proofs.Searched.{after_level, with_fates}
use Rattle.exploring.proofs.Thorough.{all_made, thorough_after}
use Rattle.exploring.specs.Counts.{level_of}
use Rattle.exploring.specs.Explorations.{Explored, first_failing, level_in}
use Rattle.exploring.specs.Searches.{IsFirstFailing, is_shown_after}
use Rattle.exploring.specs.declared.answer.FailingRun.{FailingRun}
use Rattle.exploring.specs.declared.answer.LevelRuns.{LevelRuns}
use Rattle.exploring.specs.declared.answer.Search.{Search}
use Rattle.exploring.proofs.answer.Search.run_level.Goals as goal

pub returns-clause-after : goal.returns-clause-after
returns-clause-after g c =
    λ before.
    let old = c.args.self.now in
    let new = c.find_failing.new.self in
    let e = c.run_jobs.new.self.exploration in
    let runs : LevelRuns = record { level = c.level.result; jobs = c.count.result } in
    let ran = c.in_ok-run_jobs.ensures.same in
    let levels_are = ap (λ (v : Vec LevelRuns Global). v.items) c.find_failing.ensures.levels ∙ c.in_ok-push.ensures.items ∙ ap (λ (s : Search). s.levels.items ++ runs ∷ []) ran in
    let failing_is = subst (λ (o : Option FailingRun). (new.failing ≡ o) ⊎ IfSome new.failing (IsFirstFailing e)) (ap (λ (s : Search). s.failing) ran) c.find_failing.ensures.failing in
    after_level old new e runs before c.is_on_way.ensures (ap (λ (s : Search). s.exploration) ran) c.find_failing.ensures.exploration levels_are c.level.ensures c.count.ensures failing_is

pub returns-clause-thorough : goal.returns-clause-thorough
returns-clause-thorough g c =
    λ bounds before.
    let old = c.args.self.now in
    let new = c.find_failing.new.self in
    let jobs = c.run_jobs.new.self in
    let e = jobs.exploration in
    let runs : LevelRuns = record { level = c.level.result; jobs = c.count.result } in
    let ran = c.in_ok-run_jobs.ensures.same in
    let e_is : e ≡ with_fates old.exploration e.fates = ap (λ (s : Search). s.exploration) ran in
    let left_is : jobs.left ≡ old.left = ap (λ (s : Search). s.left) ran in
    let kept : 0 < old.left → length e.jobs.jobs ≡ min e.count old.left = subst (λ (x : Explored). 0 < old.left → length x.jobs.jobs ≡ min x.count old.left) (sym e_is) before.kept in
    let none : old.left ≡ 0 → e.fates ≡ [] = λ over. c.in_ok-run_jobs.ensures.none over ∙ before.fates in
    let made : length e.fates ≡ min old.exploration.count old.left = all_made e old.left c.is_on_way.ensures kept c.in_ok-run_jobs.ensures.all none ∙ ap (λ (x : Explored). min x.count old.left) e_is in
    let left : new.left ≡ old.left - length e.fates = c.find_failing.ensures.left ∙ c.saturating_sub-self.ensures ∙ ap (λ n. n - c.ran.result) left_is ∙ ap (λ n. old.left - n) c.ran.ensures in
    let levels_are = ap (λ (v : Vec LevelRuns Global). v.items) c.find_failing.ensures.levels ∙ c.in_ok-push.ensures.items ∙ ap (λ (s : Search). s.levels.items ++ runs ∷ []) ran in
    let shown : is_some new.failing ≡ is_shown_after (is_some old.failing) old.exploration.is_good_below (is_some (first_failing e.fates)) =
    c.in_ok-find_failing.ensures.shown
    ∙ ap (λ (s : Search). is_shown_after (is_some s.failing) s.exploration.is_good_below (is_some (first_failing e.fates))) ran
    in
    thorough_after bounds old new runs e.fates before (c.find_failing.ensures.exploration ∙ e_is) levels_are
    (c.level.ensures ∙ ap (λ (x : Explored). level_of (level_in x) e.fates) e_is) (c.count.ensures ∙ ap (λ (x : Explored). x.count) e_is) left made shown
