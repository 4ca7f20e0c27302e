-- What was found for consecutive jobs.
use Rattle.std.proofs.Common.{List, Option, Some, [], arith, drop, length, map, refl, subst, sym, take, ℕ, suc, zero, ◌+◌, ◌<◌, ◌≤◌, ◌∙◌, ◌∷◌, ◌++◌, ◌≡◌}
use Rattle.std.proofs.lemmas.List.{get_or-drop, get_or-take, length-drop, length-take}
use Rattle.std.specs.Prelude.{IfSome, slice_get, slice_index_or, unwrap_or}
use Rattle.std.specs.List.{AllZip}
use Rattle.departures.specs.declared.departure.Departure.{Departure}
use Rattle.exploring.specs.Batches.{AreFound, job_at}
use Rattle.exploring.specs.Levels.{LevelJobs}

-- Lists that are related place by place.
pub by_places : {A B : Type 0} (R : A → B → Type 0) (xs : List A) (ys : List B) → length ys ≡ length xs
    → ((i : ℕ) (d : A) (e : B) → i < length xs → R (slice_index_or xs i d) (slice_index_or ys i e)) → AllZip R xs ys
by_places R [] [] same each = tt
by_places R [] (y ∷ ys) same each = absurd (omega (arith, same))
by_places R (x ∷ xs) [] same each = absurd (omega (arith, same))
by_places R (x ∷ xs) (y ∷ ys) same each =
    (each 0 x y (omega arith), by_places R xs ys (omega (arith, same)) (λ i d e less. each (suc i) d e (omega (arith, less))))

pub all_some : {A B : Type 0} (R : A → B → Type 0) (xs : List A) (ys : List B) → AllZip (λ x o. IfSome o (R x)) xs (map Some ys) → AllZip R xs ys
all_some R [] [] is = tt
all_some R [] (y ∷ ys) is = absurd is
all_some R (x ∷ xs) [] is = absurd is
all_some R (x ∷ xs) (y ∷ ys) is = (is.0, all_some R xs ys is.1)

pub joined : {A B : Type 0} (R : A → B → Type 0) (xs us : List A) (ys vs : List B) → AllZip R xs ys → AllZip R us vs → AllZip R (xs ++ us) (ys ++ vs)
joined R [] us [] vs first second = second
joined R [] us (y ∷ ys) vs first second = absurd first
joined R (x ∷ xs) us [] vs first second = absurd first
joined R (x ∷ xs) us (y ∷ ys) vs first second = (first.0, joined R xs us ys vs first.1 second)

-- ---- What was found for consecutive jobs

pub job_of : (jobs : List (List Departure)) (k : ℕ) (d : List Departure) → k < length jobs → unwrap_or (slice_get jobs k) [] ≡ slice_index_or jobs k d
job_of [] k d less = absurd (omega (arith, less))
job_of (job ∷ jobs) zero d less = refl
job_of (job ∷ jobs) (suc k) d less = job_of jobs k d (omega (arith, less))

pub found_each : {X : Type 0} (IsFor : List Departure → X → Type 0) (level : LevelJobs) (from count : ℕ) (old new : List (Option X)) → from + count ≤ length level.jobs → length old ≡ count → length new ≡ length old
    → ((i : ℕ) (o : Option X) → i < length old → IfSome (slice_index_or new i o) (IsFor (job_at level (from + i))))
    → AreFound IsFor (take count (drop from level.jobs)) new
found_each IsFor level from count old new room long same each =
    let all : length (take count (drop from level.jobs)) ≡ count = let rest = length-drop from level.jobs in let part = length-take count (drop from level.jobs) in omega (arith, rest, part, room) in
    by_places (λ job one. IfSome one (IsFor job)) (take count (drop from level.jobs)) new (omega (arith, all, same, long))
    (λ i d o less.
    let below : i < count = omega (arith, less, all) in
    let within : from + i < length level.jobs = omega (arith, below, room) in
    let place : job_at level (from + i) ≡ slice_index_or (take count (drop from level.jobs)) i d = job_of level.jobs (from + i) d within ∙ sym (get_or-take count (drop from level.jobs) i d below ∙ get_or-drop from level.jobs i d) in
    subst (λ (job : List Departure). IfSome (slice_index_or new i o) (IsFor job)) place (each i o (omega (arith, below, long))))
