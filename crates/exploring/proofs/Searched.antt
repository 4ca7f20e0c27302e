-- What an exploration has found after one more level.
use Rattle.std.proofs.Common.{List, None, Ok, Option, Some, [], ap, arith, inl, inr, length, refl, subst, sym, take, ℕ, suc, zero, ◌+◌, ◌≤◌, ◌∙◌, ◌∷◌, ◌++◌, ◌≡◌}
use Rattle.std.proofs.lemmas.List.{length-append, length-take}
use Rattle.std.proofs.lemmas.Slice.Zip.{AllZip-long}
use Rattle.std.specs.List.{AllZip}
use Rattle.std.specs.declared.alloc.Global.{Global}
use Rattle.std.specs.declared.vec.Vec.{Vec}
use Rattle.std.specs.Prelude.{IfSome, IsTrue, slice_get, ◌⊎◌}
use Rattle.explore_jobs.specs.Fates.{IsFateOf}
use Rattle.explore_jobs.specs.declared.fate.Fate.{Fate}
use Rattle.explore_jobs.specs.declared.plan.Plan.{Plan}
use Rattle.exploring.specs.Answers.{AreFirstFates, AreLevelRuns, IsAnswerTo, IsFailingRun}
use Rattle.exploring.specs.Counts.{level_of}
use Rattle.exploring.specs.Explorations.{Covers, Explored, IsNextLevel, IsOnWay, jobs_at, level_in}
use Rattle.exploring.specs.Searches.{IsAfter, IsBefore, IsFirstFailing, IsFoundFrom}
use Rattle.exploring.specs.Thorough.{IsThorough}
use Rattle.exploring.specs.declared.answer.Answer.{Answer}
use Rattle.exploring.specs.declared.answer.Bounds.{Bounds}
use Rattle.exploring.specs.declared.answer.FailingRun.{FailingRun}
use Rattle.exploring.specs.declared.answer.LevelRuns.{LevelRuns}
use Rattle.exploring.specs.declared.answer.Search.{Search}
use Rattle.jvms_machine.specs.Opening.{start_of_entry}
use Rattle.jvms_machine.specs.Start.{Start}
use Rattle.jvms_program.specs.declared.program.Class.{Class}

some_pushed : {X : Type 0} (P : ℕ → X → Type 0) (xs : List X) (x : X) → ((l : ℕ) → IfSome (slice_get xs l) (P l)) → P (length xs) x → (l : ℕ) → IfSome (slice_get (xs ++ x ∷ []) l) (P l)
some_pushed P [] x each here zero = here
some_pushed P [] x each here (suc l) = tt
some_pushed P (y ∷ ys) x each here zero = each zero
some_pushed P (y ∷ ys) x each here (suc l) = some_pushed (λ n. P (suc n)) ys x (λ n. each (suc n)) here l

fewer : {X : Type 0} (n m : ℕ) (xs : List X) → n ≤ m → take n (take m xs) ≡ take n xs
fewer zero m xs less = refl
fewer (suc n) zero xs less = absurd (omega (arith, less))
fewer (suc n) (suc m) [] less = refl
fewer (suc n) (suc m) (x ∷ xs) less = ap (λ l. x ∷ l) (fewer n m xs (omega (arith, less)))

among_first : {X : Type 0} (m : ℕ) (xs : List X) (i : ℕ) (x : X) → slice_get (take m xs) i ≡ Some x → slice_get xs i ≡ Some x
among_first zero xs i x is = absurd (cc)
among_first (suc m) [] i x is = absurd (cc)
among_first (suc m) (y ∷ ys) zero x is = is
among_first (suc m) (y ∷ ys) (suc i) x is = among_first m ys i x is

first_fates : (e : Explored) (start : Start) → IsOnWay e → start_of_entry e.program e.plan.limits e.plan.entry ≡ Ok start → AreFirstFates e.program e.plan start (level_in e) e.fates
first_fates e start way begun =
    let at = way.level start begun in
    let level = jobs_at e.program e.plan start (level_in e) in
    let long = AllZip-long (IsFateOf e.program e.plan) (take (length e.fates) e.jobs.jobs) e.fates way.fates in
    let part = length-take (length e.fates) e.jobs.jobs in
    let same : take (length e.fates) e.jobs.jobs ≡ take (length e.fates) level =
    ap (take (length e.fates)) at.jobs ∙ fewer (length e.fates) (length e.jobs.jobs) level (omega (arith, long, part))
    in
    subst (λ js. AllZip (IsFateOf e.program e.plan) js e.fates) same way.fates

failing_is : (e : Explored) (start : Start) (run : FailingRun) → IsOnWay e → start_of_entry e.program e.plan.limits e.plan.entry ≡ Ok start → IsFirstFailing e run → IsFailingRun e.program e.plan start run
failing_is e start run way begun found =
    let at = way.level start begun in
    let long = sym found.is.long in
    record {
      fates = e.fates;
      place = found.place;
      are = subst (λ n. AreFirstFates e.program e.plan start n e.fates) long (first_fates e start way begun);
      first = found.first;
      job = subst (λ n. slice_get (jobs_at e.program e.plan start n) found.place ≡ Some run.departures.items) long
          (among_first (length e.jobs.jobs) (jobs_at e.program e.plan start (level_in e)) found.place run.departures.items
          (subst (λ js. slice_get js found.place ≡ Some run.departures.items) at.jobs found.is.job));
      fate = found.is.fate;
      ending = found.is.ending;
      least = subst (Covers e.program e.plan start) long (found.least start begun);
    }

failing_from : (e : Explored) (start : Start) (o : Option FailingRun) → IsOnWay e → start_of_entry e.program e.plan.limits e.plan.entry ≡ Ok start → IfSome o (IsFirstFailing e) → IfSome o (IsFailingRun e.program e.plan start)
failing_from e start None way begun found = tt
failing_from e start (Some run) way begun found = failing_is e start run way begun found

either_found : (e : Explored) (start : Start) (old new : Option FailingRun) → IsOnWay e → start_of_entry e.program e.plan.limits e.plan.entry ≡ Ok start → IfSome old (IsFailingRun e.program e.plan start)
    → (new ≡ old) ⊎ IfSome new (IsFirstFailing e) → IfSome new (IsFailingRun e.program e.plan start)
either_found e start old new way begun before (inl same) = subst (λ o. IfSome o (IsFailingRun e.program e.plan start)) (sym same) before
either_found e start old new way begun before (inr found) = failing_from e start new way begun found

-- The exploration with these fates.
abbrev pub with_fates : Explored → List Fate → Explored
with_fates e fates = record { program = e.program; plan = e.plan; jobs = e.jobs; count = e.count; fates = fates; is_good_below = e.is_good_below }

after_with : (old new : Search) (fates : List Fate) (runs : LevelRuns) → IsBefore old → IsOnWay (with_fates old.exploration fates) → new.exploration ≡ with_fates old.exploration fates
    → new.levels.items ≡ old.levels.items ++ runs ∷ [] → runs.level ≡ level_of (level_in old.exploration) fates → runs.jobs ≡ old.exploration.count
    → (new.failing ≡ old.failing) ⊎ IfSome new.failing (IsFirstFailing (with_fates old.exploration fates)) → IsAfter new
after_with old new fates runs before way e_is levels_are counts_are jobs_are failing_is =
    let e = with_fates old.exploration fates in
    let level = level_in old.exploration in
    let all : (start : Start) → start_of_entry e.program e.plan.limits e.plan.entry ≡ Ok start → IsFoundFrom e.program e.plan start new.levels.items new.failing =
    λ start begun.
    let found = before.found start begun in
    let here : AreLevelRuns e.program e.plan start (length old.levels.items) runs =
    subst (λ n. AreLevelRuns e.program e.plan start n runs) (sym before.counted)
    (record { fates = fates; are = first_fates e start way begun; counted = counts_are; jobs = jobs_are ∙ (way.level start begun).count })
    in
    record {
      levels = subst (λ (items : List LevelRuns). (l : ℕ) → IfSome (slice_get items l) (AreLevelRuns e.program e.plan start l)) (sym levels_are)
          (some_pushed (AreLevelRuns e.program e.plan start) old.levels.items runs found.levels here);
      failing = either_found e start old.failing new.failing way begun found.failing failing_is;
    }
    in
    let many : length new.levels.items ≡ level + 1 = let sum = length-append old.levels.items (runs ∷ []) in ap length levels_are ∙ omega (arith, sum, before.counted) in
    record {
      counted = many ∙ ap (λ (x : Explored). level_in x + 1) (sym e_is);
      found = subst (λ (x : Explored). (start : Start) → start_of_entry x.program x.plan.limits x.plan.entry ≡ Ok start → IsFoundFrom x.program x.plan start new.levels.items new.failing) (sym e_is) all;
    }

pub after_level : (old new : Search) (e : Explored) (runs : LevelRuns) → IsBefore old → IsOnWay e → e ≡ with_fates old.exploration e.fates → new.exploration ≡ e
    → new.levels.items ≡ old.levels.items ++ runs ∷ [] → runs.level ≡ level_of (level_in e) e.fates → runs.jobs ≡ e.count
    → (new.failing ≡ old.failing) ⊎ IfSome new.failing (IsFirstFailing e) → IsAfter new
after_level old new e runs before way same e_is levels_are counts_are jobs_are failing_is =
    after_with old new e.fates runs before (subst IsOnWay same way) (e_is ∙ same) levels_are (counts_are ∙ ap (λ (x : Explored). level_of (level_in x) e.fates) same) (jobs_are ∙ ap (λ (x : Explored). x.count) same)
    (subst (λ (x : Explored). (new.failing ≡ old.failing) ⊎ IfSome new.failing (IsFirstFailing x)) same failing_is)

-- ---- The next level

moved : (runs : List LevelRuns) (run : Option FailingRun) (p q : List Class) (a b : Plan) → q ≡ p → b ≡ a
    → ((start : Start) → start_of_entry p a.limits a.entry ≡ Ok start → IsFoundFrom p a start runs run)
    → (start : Start) → start_of_entry q b.limits b.entry ≡ Ok start → IsFoundFrom q b start runs run
moved runs run p q a b same_program same_plan found =
    subst (λ (x : List Class). (start : Start) → start_of_entry x b.limits b.entry ≡ Ok start → IsFoundFrom x b start runs run) (sym same_program)
    (subst (λ (x : Plan). (start : Start) → start_of_entry p x.limits x.entry ≡ Ok start → IsFoundFrom p x start runs run) (sym same_plan) found)

pub before_next : (old new : Search) (room : ℕ) → IsAfter old → IsNextLevel room old.exploration new.exploration → new.levels ≡ old.levels → new.failing ≡ old.failing → IsBefore new
before_next old new room after next levels_are failing_is =
    record {
      counted = ap (λ (v : Vec LevelRuns Global). length v.items) levels_are ∙ after.counted ∙ sym next.level;
      found = subst (λ (run : Option FailingRun). (start : Start) → start_of_entry new.exploration.program new.exploration.plan.limits new.exploration.plan.entry ≡ Ok start → IsFoundFrom new.exploration.program new.exploration.plan start new.levels.items run) (sym failing_is)
          (subst (λ (v : Vec LevelRuns Global). (start : Start) → start_of_entry new.exploration.program new.exploration.plan.limits new.exploration.plan.entry ≡ Ok start → IsFoundFrom new.exploration.program new.exploration.plan start v.items old.failing) (sym levels_are)
          (moved old.levels.items old.failing old.exploration.program new.exploration.program old.exploration.plan new.exploration.plan next.program next.plan after.found));
    }

-- ---- The answer

pub answer_is : (program : List Class) (plan : Plan) (bounds : Bounds) (search : Search) (answer : Answer) → IsAfter search → search.exploration.program ≡ program → search.exploration.plan ≡ plan
    → answer.levels ≡ search.levels → answer.failing ≡ search.failing
    → IsThorough bounds answer
    → (IsTrue answer.is_covered → (start : Start) → start_of_entry search.exploration.program search.exploration.plan.limits search.exploration.plan.entry ≡ Ok start → Covers search.exploration.program search.exploration.plan start (bounds.departures + 1))
    → IsAnswerTo program plan bounds answer
answer_is program plan bounds search answer after same_program same_plan levels_are failing_is thorough covers =
    let own : IsAnswerTo search.exploration.program search.exploration.plan bounds answer =
    λ start begun.
    let found = after.found start begun in
    record {
      levels = subst (λ (v : Vec LevelRuns Global). (l : ℕ) → IfSome (slice_get v.items l) (AreLevelRuns search.exploration.program search.exploration.plan start l)) (sym levels_are) found.levels;
      failing = subst (λ (o : Option FailingRun). IfSome o (IsFailingRun search.exploration.program search.exploration.plan start)) (sym failing_is) found.failing;
      covered = λ good. covers good start begun;
      thorough = thorough;
    }
    in
    subst (λ (x : Plan). IsAnswerTo program x bounds answer) same_plan (subst (λ (x : List Class). IsAnswerTo x search.exploration.plan bounds answer) same_program own)
