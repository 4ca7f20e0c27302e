-- Jobs that are kept one after another.
use Rattle.std.proofs.Common.{List, Some, [], ap, arith, drop, length, refl, subst, sym, take, ℕ, suc, zero, ◌*◌, ◌+◌, ◌-◌, ◌<◌, ◌≤◌, ◌∙◌, ◌∷◌, ◌++◌, ◌≡◌}
use Rattle.std.proofs.Math.Nat.{mul-le-mul_right}
use Rattle.std.proofs.lemmas.List.{append_assoc, drop-append-le, drop-drop, length-append, length-drop, take-append-le, take_all}
use Rattle.std.specs.Prelude.{slice_get}
use Rattle.departures.specs.declared.departure.Departure.{Departure}
use Rattle.exploring.specs.Levels.{LevelJobs, jobs_in}

abbrev level_of : ℕ → List (List Departure) → LevelJobs
level_of each jobs = record { each = each; jobs = jobs }

pub count_is : (count each : ℕ) (ds : List Departure) → length (jobs_in count each ds) ≡ count
unfolding jobs_in
count_is zero each ds = refl
count_is (suc count) each ds = ap suc (count_is count each (drop each ds))

pub none_in : (each : ℕ) (ds : List Departure) → jobs_in 0 each ds ≡ []
unfolding jobs_in
none_in each ds = refl

pub one_in : jobs_in 1 0 [] ≡ [] ∷ []
unfolding jobs_in
one_in = refl

next_begin : (i each : ℕ) → each + i * each ≡ suc i * each
next_begin i each = omega arith

pub job_at : (count each : ℕ) (ds : List Departure) (i : ℕ) → i < count → slice_get (jobs_in count each ds) i ≡ Some (take each (drop (i * each) ds))
unfolding jobs_in
job_at zero each ds i less = absurd (omega (arith, less))
job_at (suc count) each ds zero less = let none : 0 * each ≡ 0 = omega arith in ap (λ n. Some (take each (drop n ds))) (sym none)
job_at (suc count) each ds (suc i) less =
    job_at count each (drop each ds) i (omega (arith, less))
    ∙ ap (λ xs. Some (take each xs)) (drop-drop (i * each) each ds ∙ ap (λ n. drop n ds) (next_begin i each))

-- A job ends within all of them.
pub ends_within : (count each i : ℕ) → i < count → i * each + each ≤ count * each
ends_within count each i less =
    let most = mul-le-mul_right {m = suc i} {n = count} each (omega (arith, less)) in
    let end : suc i * each ≡ i * each + each = omega arith in
    omega (arith, most, end)

-- The same of a level's jobs.
pub level_within : (level : LevelJobs) (count each i : ℕ) (ds : List Departure) → level_of each (jobs_in count each ds) ≡ level → length ds ≡ count * each → i < length level.jobs → i * each + each ≤ length ds
level_within level count each i ds is whole less =
    let counted = count_is count each ds in
    let all = ap (λ (j : LevelJobs). length j.jobs) is in
    let below : i < count = omega (arith, less, counted, all) in
    let within = ends_within count each i below in
    subst (λ n. i * each + each ≤ n) (sym whole) within

pub level_job : (level : LevelJobs) (count each i : ℕ) (ds seen : List Departure) → level_of each (jobs_in count each ds) ≡ level → i < length level.jobs → seen ≡ ds → slice_get level.jobs i ≡ Some (take (i * each + each - i * each) (drop (i * each) seen))
level_job level count each i ds seen is less same =
    let counted = count_is count each ds in
    let all = ap (λ (j : LevelJobs). length j.jobs) is in
    let below : i < count = omega (arith, less, counted, all) in
    let long : i * each + each - i * each ≡ each = omega arith in
    sym (ap (λ (j : LevelJobs). slice_get j.jobs i) is)
    ∙ job_at count each ds i below
    ∙ ap (λ n. Some (take n (drop (i * each) ds))) (sym long)
    ∙ ap (λ xs. Some (take (i * each + each - i * each) (drop (i * each) xs))) (sym same)

take_whole : (job : List Departure) (each : ℕ) → length job ≡ each → take each job ≡ job
take_whole job each is = take_all each job (omega (arith, is))

-- One more job behind the others.
more_in : (count each : ℕ) (ds job : List Departure) → length ds ≡ count * each → length job ≡ each → jobs_in (count + 1) each (ds ++ job) ≡ jobs_in count each ds ++ job ∷ []
unfolding jobs_in
more_in zero each [] job whole is = ap (λ x. x ∷ []) (take_whole job each is)
more_in zero each (d ∷ ds) job whole is = absurd (omega (arith, whole))
more_in (suc count) each ds job whole is =
    let sum : suc count * each ≡ each + count * each = omega arith in
    let long : each ≤ length ds = omega (arith, whole, sum) in
    let rest : length (drop each ds) ≡ count * each = let dropped = length-drop each ds in omega (arith, dropped, whole, sum) in
    let one : suc count + 1 ≡ suc (count + 1) = omega arith in
    ap (λ n. jobs_in n each (ds ++ job)) one
    ∙ ap (λ x. x ∷ jobs_in (count + 1) each (drop each (ds ++ job))) (take-append-le each ds job long)
    ∙ ap (λ xs. take each ds ∷ jobs_in (count + 1) each xs) (drop-append-le each ds job long)
    ∙ ap (λ xs. take each ds ∷ xs) (more_in count each (drop each ds) job rest is)

pub level_more : (level : LevelJobs) (count each : ℕ) (ds kept parent more now : List Departure) (added : Departure) → level_of each (jobs_in count each ds) ≡ level → length ds ≡ count * each → length parent + 1 ≡ level.each
    → kept ≡ ds → more ≡ kept ++ parent → now ≡ more ++ added ∷ []
    → level_of each (jobs_in (count + 1) each now) ≡ level_of level.each (level.jobs ++ (parent ++ added ∷ []) ∷ [])
level_more level count each ds kept parent more now added is whole size same first second =
    let items : now ≡ ds ++ (parent ++ added ∷ []) = second ∙ ap (λ xs. xs ++ added ∷ []) (first ∙ ap (λ xs. xs ++ parent) same) ∙ append_assoc ds parent (added ∷ []) in
    let sized : length (parent ++ added ∷ []) ≡ each = let long = length-append parent (added ∷ []) in let here = ap (λ (j : LevelJobs). j.each) is in omega (arith, long, here, size) in
    ap (λ xs. level_of each (jobs_in (count + 1) each xs)) items
    ∙ ap (level_of each) (more_in count each ds (parent ++ added ∷ []) whole sized)
    ∙ ap (λ (j : LevelJobs). level_of j.each (j.jobs ++ (parent ++ added ∷ []) ∷ [])) is
