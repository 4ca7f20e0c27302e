-- What an exploration on its way covers.
use Rattle.std.proofs.Common.{Bool, List, [], ◌∷◌, ◌++◌, None, drop, suc, take-add, zero, Option, Some, Ok, ap, arith, false, length, nat_lt, refl, subst, sym, take, true, ℕ, ◌+◌, ◌<◌, ◌≤◌, ◌∙◌, ◌≡◌}
use Rattle.std.proofs.lemmas.Bool.Decides.{nat_tests}
use Rattle.std.proofs.lemmas.List.{append-nil, get_or-take, length-append, length-drop, length-take, take_all}
use Rattle.std.proofs.lemmas.Slice.Zip.{AllZip-long}
use Rattle.std.specs.List.{AllZip}
use Rattle.std.specs.Prelude.{IsTrue, cond, is_none, nat_eq, slice_index_or, ◌&&◌}
use Rattle.departures.proofs.Lists.{in_level}
use Rattle.departures.specs.Jobs.{AreGoodBelow, AreGoodTo, CanTakeLocals, IsIn, IsReduced, all_children, jobs_of}
use Rattle.departures.specs.declared.departure.Departure.{Departure}
use Rattle.exploration_parts.proofs.Parts.{in_a_part}
use Rattle.exploration_parts.specs.Parts.{has_first, jobs_of_part, those_of}
use Rattle.exploration_parts.specs.declared.part.Part.{Part}
use Rattle.explore_jobs.specs.Fates.{IsFateOf}
use Rattle.explore_jobs.specs.declared.fate.Fate.{Fate}
use Rattle.explore_jobs.specs.declared.plan.Plan.{Plan}
use Rattle.explore_laws.specs.Coverage.{EndsWell, IsWholeRun, JobsEndWell}
use Rattle.explore_jobs.specs.Plans.{fits}
use Rattle.exploring.proofs.Covered.{Made, level_ends_well}
use Rattle.exploring.proofs.Found.{job_of, joined}
use Rattle.exploring.proofs.Grows.{zip_at}
use Rattle.exploring.proofs.Staying.{staying_can_take}
use Rattle.exploring.specs.Batches.{job_at}
use Rattle.exploring.specs.Explorations.{AreFatesOf, Covers, CoversWith, Explored, IsNextLevel, IsOnWay, JobEndsWell, JobsEndWellBelow, children_at, children_of_all, first_failing, first_jobs, has_first_job, is_good, is_whole, jobs_at, jobs_in, level_in, next_jobs}
use Rattle.exploring.specs.Growths.{AreNextIn, IsGrowthOf}
use Rattle.exploring.specs.declared.growth.Growth.{Growth}
use Rattle.jvms_machine.proofs.OpeningSoundness.{opening_is_sound}
use Rattle.jvms_machine.specs.Limits.{are_limits}
use Rattle.jvms_machine.specs.Opening.{opening, start_of_entry}
use Rattle.jvms_machine.specs.Start.{IsStart, Start}
use Rattle.jvms_machine.specs.State.{Sound, State}
use Rattle.jvms_machine.specs.declared.machine.Limits.{Limits}
use Rattle.jvms_program.specs.Program.{IsProgram}
use Rattle.jvms_program.specs.declared.program.Class.{Class}
use Rattle.explore_jobs.specs.Stays.{stays}
use Rattle.local_turns.proofs.Turned.{are_local}
use Rattle.local_turns.specs.Turns.{turns_of}
use Rattle.program_runs.proofs.ShownRuns.{made_is_opened}
use Rattle.velodrome.specs.Specification.{Specification}

-- Jobs speak for all runs.
abbrev pub Speaks : Type 0
Speaks =
    (program : List Class) (limits : Limits) (start : Start) → IsProgram program → IsTrue (are_limits limits) → IsStart start
    → (lines : Specification) (turns : ℕ) (s : State) (most : ℕ) → Sound program limits s → JobsEndWell program limits start lines turns s most
    → (choices : List ℕ) → IsWholeRun program limits start s most choices → (length choices ≤ turns) × EndsWell program limits start lines s choices

-- Jobs speak for reduced runs, whichever threads stay where.
abbrev pub SpeaksReduced : Type 0
SpeaksReduced =
    (program : List Class) (limits : Limits) (start : Start) (stays : State → ℕ → Bool) → CanTakeLocals (turns_of program limits start) stays
    → (lines : Specification) (turns : ℕ) (s : State) (most : ℕ) → AreGoodTo (turns_of program limits start) stays turns s 0 most (EndsWell program limits start lines s)
    → (choices : List ℕ) → IsWholeRun program limits start s most choices → IsReduced (turns_of program limits start) stays s 0 choices
    → (length choices ≤ turns) × EndsWell program limits start lines s choices

can_take : (program : List Class) (plan : Plan) (start : Start) → IsProgram program → start_of_entry program plan.limits plan.entry ≡ Ok start → CanTakeLocals (turns_of program plan.limits start) (stays program plan.limits start plan.within)
can_take program plan start is made =
    let opened = made_is_opened plan.limits program plan.entry start is made in
    staying_can_take program plan.limits start plan.within (are_local program plan.limits start is opened.limits opened.start).can_take

-- Where all jobs are run, all are good if those that are run are.
all_below : (program : List Class) (plan : Plan) (start : Start) (end : ℕ) → plan.part ≡ None → JobsEndWellBelow program plan start end
    → AreGoodBelow (turns_of program plan.limits start) (stays program plan.limits start plan.within) plan.most (opening program) 0 end (EndsWell program plan.limits start plan.spec (opening program))
all_below program plan start end all below level less ds job =
    below level less ds
    (subst (λ (part : Option Part). IsIn ds (jobs_in program plan start part level)) (sym all)
    (in_level (turns_of program plan.limits start) (stays program plan.limits start plan.within) level plan.most (opening program) 0 ds job))

covered_with : (speaks : Speaks) (reduced : SpeaksReduced) (program : List Class) (plan : Plan) (start : Start) (end : ℕ) (part : Option Part) (within : Specification) → plan.part ≡ part → plan.within ≡ within → IsProgram program → start_of_entry program plan.limits plan.entry ≡ Ok start
    → JobsEndWellBelow program plan start end → CoversWith program plan start part within end
covered_with speaks reduced program plan start end (Some part) within own same is made below = below
covered_with speaks reduced program plan start end None [] own same is made below =
    λ most less choices run.
    let opened = made_is_opened plan.limits program plan.entry start is made in
    let all =
    subst (λ (within : Specification). AreGoodBelow (turns_of program plan.limits start) (stays program plan.limits start within) plan.most (opening program) 0 end (EndsWell program plan.limits start plan.spec (opening program))) same
    (all_below program plan start end own below)
    in
    speaks program plan.limits start is opened.limits opened.start plan.spec plan.most (opening program) most (opening_is_sound program plan.limits opened.limits)
    (λ level within ds job. all level (omega (arith, within, less)) ds job) choices run
covered_with speaks reduced program plan start end None (line ∷ lines) own same is made below =
    λ most less choices run leaves.
    reduced program plan.limits start (stays program plan.limits start plan.within) (can_take program plan start is made) plan.spec plan.most (opening program) most
    (λ level within ds job. all_below program plan start end own below level (omega (arith, within, less)) ds job) choices run leaves

pub covered_below : (speaks : Speaks) (reduced : SpeaksReduced) (program : List Class) (plan : Plan) (start : Start) (end : ℕ) → IsProgram program → start_of_entry program plan.limits plan.entry ≡ Ok start → JobsEndWellBelow program plan start end → Covers program plan start end
covered_below speaks reduced program plan start end is made below = covered_with speaks reduced program plan start end plan.part plan.within refl refl is made below

-- ---- Whole levels

both_hold : (a b : Bool) → IsTrue (a && b) → IsTrue a × IsTrue b
both_hold true b is = (refl, is)
both_hold false b is = absurd (cc)

same_by : (n m : ℕ) → IsTrue (nat_eq n m) → n ≡ m
same_by n m is = grind (arith, nat_tests)

no_place : (o : Option ℕ) → IsTrue (is_none o) → o ≡ None
no_place None is = refl
no_place (Some place) is = absurd (cc)

pub all_jobs : {X : Type 0} (R : List Departure → X → Type 0) (jobs level : List (List Departure)) (fates : List X) → jobs ≡ take (length jobs) level → length fates ≡ length level → AllZip R (take (length fates) jobs) fates → AllZip R level fates
all_jobs R jobs level fates kept many are =
    let long = AllZip-long R (take (length fates) jobs) fates are in
    let part = length-take (length fates) jobs in
    let enough : length level ≤ length jobs = omega (arith, long, part, many) in
    let same : jobs ≡ level = kept ∙ take_all (length jobs) level enough in
    let all : take (length fates) jobs ≡ level = ap (take (length fates)) same ∙ take_all (length fates) level (omega (arith, many)) in
    subst (λ js. AllZip R js fates) all are

pub whole_fates : (e : Explored) (start : Start) → IsOnWay e → start_of_entry e.program e.plan.limits e.plan.entry ≡ Ok start → IsTrue (is_whole e) → AreFatesOf e.program e.plan (jobs_at e.program e.plan start (level_in e)) e.fates
whole_fates e start way made whole =
    let at = way.level start made in
    all_jobs (IsFateOf e.program e.plan) e.jobs.jobs (jobs_at e.program e.plan start (level_in e)) e.fates at.jobs (same_by (length e.fates) e.count whole ∙ at.count) way.fates

below_or_at : (b : Bool) (program : List Class) (plan : Plan) (start : Start) (level l : ℕ) → nat_lt l level ≡ b → l < level + 1 → JobsEndWellBelow program plan start level
    → ((ds : List Departure) → IsIn ds (jobs_at program plan start level) → JobEndsWell program plan start ds)
    → (ds : List Departure) → IsIn ds (jobs_at program plan start l) → JobEndsWell program plan start ds
below_or_at true program plan start level l is less below here ds job = below l (grind (arith, nat_tests)) ds job
below_or_at false program plan start level l is less below here ds job =
    let same : l ≡ level = grind (arith, nat_tests) in here ds (subst (λ n. IsIn ds (jobs_at program plan start n)) same job)

pub good_to : (made : Made) (e : Explored) (start : Start) → IsProgram e.program → IsOnWay e → start_of_entry e.program e.plan.limits e.plan.entry ≡ Ok start → IsTrue (is_good e) → JobsEndWellBelow e.program e.plan start (level_in e + 1)
good_to made e start is way begun good level less ds job =
    let parts = both_hold (e.is_good_below && is_whole e) (is_none (first_failing e.fates)) good in
    let both = both_hold e.is_good_below (is_whole e) parts.0 in
    below_or_at (nat_lt level (level_in e)) e.program e.plan start (level_in e) level refl less ((way.level start begun).below both.0)
    (level_ends_well e.program e.plan start made (can_take e.program e.plan start is begun) begun (level_in e) e.fates (whole_fates e start way begun both.1) (no_place (first_failing e.fates) parts.1))
    ds job

-- ---- The fates of jobs

pub fate_at : (e : Explored) → IsOnWay e → (i : ℕ) (fate : Fate) → i < length e.fates → fate ≡ slice_index_or e.fates i fate → IsFateOf e.program e.plan (job_at e.jobs i) fate
fate_at e way i fate less read =
    let jobs = e.jobs.jobs in
    let long = AllZip-long (IsFateOf e.program e.plan) (take (length e.fates) jobs) e.fates way.fates in
    let part = length-take (length e.fates) jobs in
    let within : i < length jobs = omega (arith, long, part, less) in
    let here : i < length (take (length e.fates) jobs) = omega (arith, long, less) in
    let job : slice_index_or (take (length e.fates) jobs) i [] ≡ job_at e.jobs i = get_or-take (length e.fates) jobs i [] less ∙ sym (job_of jobs i [] within) in
    subst (λ x. IsFateOf e.program e.plan (job_at e.jobs i) x) (sym read)
    (subst (λ js. IsFateOf e.program e.plan js (slice_index_or e.fates i fate)) job (zip_at (IsFateOf e.program e.plan) (take (length e.fates) jobs) e.fates i [] fate way.fates here))

-- ---- The first level

first_are : (program : List Class) (plan : Plan) (start : Start) (part : Option Part) → first_jobs part ≡ jobs_in program plan start part 0
unfolding jobs_of jobs_of_part
first_are program plan start None = refl
first_are program plan start (Some part) = refl

pub way_begins : (program : List Class) (plan : Plan) → IsTrue (fits program plan) → IsOnWay (record { program = program; plan = plan; jobs = record { each = 0; jobs = first_jobs plan.part }; count = length (first_jobs plan.part); fates = []; is_good_below = true })
way_begins program plan is =
    record {
      fits = is;
      fates = tt;
      level = λ start begun.
          let first = first_are program plan start plan.part in
          record {
            jobs = sym (take_all (length (first_jobs plan.part)) (first_jobs plan.part) (omega arith)) ∙ ap (take (length (first_jobs plan.part))) first;
            count = ap length first;
            below = λ good level less ds job. absurd (omega (arith, less));
          };
    }

one_at_most : (b : Bool) → length {A = List Departure} (cond b ([] ∷ []) []) ≤ 1
one_at_most true = omega arith
one_at_most false = omega arith

-- Level 0 has at most one job.
pub one_first : (part : Option Part) → length (first_jobs part) ≤ 1
one_first part = one_at_most (has_first_job part)

-- ---- More runs of a level

pub counted : {A B : Type 0} (R : A → B → Type 0) (xs : List A) (ys : List B) (from count : ℕ) → from + count ≤ length xs → AllZip R (take count (drop from xs)) ys → length ys ≡ count
counted R xs ys from count within are =
    let long = AllZip-long R (take count (drop from xs)) ys are in
    let part = length-take count (drop from xs) in
    let rest = length-drop from xs in
    omega (arith, long, part, rest, within)

pub run_is_among : (e : Explored) → IsOnWay e → (i : ℕ) → i < length e.fates → i < length e.jobs.jobs
run_is_among e way i less =
    let long = AllZip-long (IsFateOf e.program e.plan) (take (length e.fates) e.jobs.jobs) e.fates way.fates in
    let part = length-take (length e.fates) e.jobs.jobs in
    omega (arith, long, part, less)

pub further_way : (e : Explored) → IsOnWay e → (count : ℕ) (more : List Fate) → length e.fates + count ≤ length e.jobs.jobs → AreFatesOf e.program e.plan (take count (drop (length e.fates) e.jobs.jobs)) more
    → IsOnWay (record { program = e.program; plan = e.plan; jobs = e.jobs; count = e.count; fates = e.fates ++ more; is_good_below = e.is_good_below })
further_way e way count more within are =
    let many = counted (IsFateOf e.program e.plan) e.jobs.jobs more (length e.fates) count within are in
    let sum : length (e.fates ++ more) ≡ length e.fates + count = let all = length-append e.fates more in omega (arith, all, many) in
    let parts : take (length (e.fates ++ more)) e.jobs.jobs ≡ take (length e.fates) e.jobs.jobs ++ take count (drop (length e.fates) e.jobs.jobs) =
    ap (λ n. take n e.jobs.jobs) sum ∙ take-add (length e.fates) count e.jobs.jobs
    in
    record {
      fits = way.fits;
      fates = subst (λ js. AllZip (IsFateOf e.program e.plan) js (e.fates ++ more)) (sym parts)
          (joined (IsFateOf e.program e.plan) (take (length e.fates) e.jobs.jobs) (take count (drop (length e.fates) e.jobs.jobs)) e.fates more way.fates are);
      level = λ start begun. let at = way.level start begun in record { jobs = at.jobs; count = at.count; below = at.below };
    }

-- ---- The next level

part_of : {X : Type 0} (n : ℕ) (xs : List X) → take n xs ≡ take (length (take n xs)) xs
part_of zero xs = refl
part_of (suc n) [] = refl
part_of (suc n) (x ∷ xs) = ap (λ l. x ∷ l) (part_of n xs)

pub whole_jobs : (e : Explored) (start : Start) → IsOnWay e → start_of_entry e.program e.plan.limits e.plan.entry ≡ Ok start → IsTrue (is_whole e) → e.jobs.jobs ≡ jobs_at e.program e.plan start (level_in e)
whole_jobs e start way begun whole =
    let at = way.level start begun in
    let level = jobs_at e.program e.plan start (level_in e) in
    let many = same_by (length e.fates) e.count whole ∙ at.count in
    let long = AllZip-long (IsFateOf e.program e.plan) (take (length e.fates) e.jobs.jobs) e.fates way.fates in
    let part = length-take (length e.fates) e.jobs.jobs in
    at.jobs ∙ take_all (length e.jobs.jobs) level (omega (arith, long, part, many))

next_of_part : (program : List Class) (plan : Plan) (start : Start) (part : Option Part) (level : ℕ) (jobs : List (List Departure)) → jobs ≡ jobs_in program plan start part level → next_jobs program plan start part level jobs ≡ jobs_in program plan start part (suc level)
unfolding jobs_of jobs_of_part all_children
next_of_part program plan start None level jobs same = ap (children_of_all program plan start) same
next_of_part program plan start (Some part) zero jobs same = ap (those_of part 0) (sym (append-nil (children_at program plan start [])))
next_of_part program plan start (Some part) (suc level) jobs same = ap (children_of_all program plan start) same

pub next_are : (e : Explored) (start : Start) → IsOnWay e → start_of_entry e.program e.plan.limits e.plan.entry ≡ Ok start → IsTrue (is_whole e) → next_jobs e.program e.plan start e.plan.part (level_in e) e.jobs.jobs ≡ jobs_at e.program e.plan start (level_in e + 1)
next_are e start way begun whole =
    let next : suc (level_in e) ≡ level_in e + 1 = omega arith in
    next_of_part e.program e.plan start e.plan.part (level_in e) e.jobs.jobs (whole_jobs e start way begun whole) ∙ ap (jobs_at e.program e.plan start) next

pub next_way : (made : Made) (e : Explored) → IsProgram e.program → IsOnWay e → (room : ℕ) (growth : Growth) (good : Bool) → IsTrue (is_whole e) → growth.jobs.each ≡ level_in e + 1 → AreNextIn e room growth → good ≡ is_good e
    → IsOnWay (record { program = e.program; plan = e.plan; jobs = growth.jobs; count = growth.count; fates = []; is_good_below = good })
next_way made e is way room growth good whole each grown good_is =
    record {
      fits = way.fits;
      fates = tt;
      level = λ start begun.
          let here = grown start begun in
          let level : next_jobs e.program e.plan start e.plan.part (level_in e) e.jobs.jobs ≡ jobs_at e.program e.plan start growth.jobs.each = next_are e start way begun whole ∙ ap (jobs_at e.program e.plan start) (sym each) in
          let kept : growth.jobs.jobs ≡ take room (jobs_at e.program e.plan start growth.jobs.each) = here.kept ∙ ap (take room) level in
          record {
            jobs = kept ∙ part_of room (jobs_at e.program e.plan start growth.jobs.each) ∙ ap (λ (js : List (List Departure)). take (length js) (jobs_at e.program e.plan start growth.jobs.each)) (sym kept);
            count = here.count ∙ ap length level;
            below = λ on. subst (JobsEndWellBelow e.program e.plan start) (sym each) (good_to made e start is way begun (subst IsTrue good_is on));
          };
    }

pub next_level_is : (e : Explored) → IsOnWay e → (room : ℕ) (growth : Growth) → IsTrue (is_whole e) → growth.jobs.each ≡ level_in e + 1 → AreNextIn e room growth
    → IsNextLevel room e (record { program = e.program; plan = e.plan; jobs = growth.jobs; count = growth.count; fates = []; is_good_below = is_good e })
next_level_is e way room growth whole each grown =
    record {
      program = refl;
      plan = refl;
      level = each;
      fates = refl;
      below = refl;
      jobs = λ start begun. (grown start begun).kept ∙ ap (take room) (next_are e start way begun whole ∙ ap (jobs_at e.program e.plan start) (sym each));
      count = λ start begun. (grown start begun).count ∙ ap length (next_are e start way begun whole ∙ ap (jobs_at e.program e.plan start) (sym each));
    }

none_kept : {X : Type 0} (n : ℕ) → [] ≡ take {A = X} n []
none_kept zero = refl
none_kept (suc n) = refl

pub none_grown : (program : List Class) (plan : Plan) (start : Start) (room : ℕ) (jobs : List (List Departure)) (growth : Growth) → growth.jobs.jobs ≡ [] → growth.count ≡ 0 → IsGrowthOf room (children_of_all program plan start (take 0 jobs)) growth
unfolding all_children
none_grown program plan start room jobs growth none count_is =
    record { kept = none ∙ none_kept room; count = count_is }

-- ---- The parts together

-- If each of n parts covers its own, all is covered.
pub parts_cover : (speaks : Speaks) (reduced : SpeaksReduced) (program : List Class) (plan : Plan) (start : Start) → IsProgram program → start_of_entry program plan.limits plan.entry ≡ Ok start
    → (count : ℕ) → 0 < count → (end : ℕ) → ((index : ℕ) → index < count → Covers program (record plan { part = Some (record { index = index; count = count }) }) start end)
    → Covers program (record plan { part = None }) start end
parts_cover speaks reduced program plan start is begun count some end each =
    covered_below speaks reduced program (record plan { part = None }) start end is begun
    (λ level less ds job.
    let own = in_a_part (turns_of program plan.limits start) (stays program plan.limits start plan.within) count some plan.most (opening program) 0 level ds job in
    each own.index own.below level less ds own.is)
