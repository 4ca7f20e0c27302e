-- What the jobs of the levels cover.
use Rattle.std.proofs.Common.{Bool, List, ap, false, inl, inr, refl, subst, sym, true, ℕ, ◌∙◌, ◌≡◌, ◌≤◌, length}
use Rattle.std.proofs.lemmas.Bool.{cases_lt, false≢true}
use Rattle.departures.proofs.Names.{again, length_name}
use Rattle.departures.proofs.Reduction.{each_is_stood_for, least_of, schedule_by}
use Rattle.departures.proofs.Tree.{job_fits, name_is_job}
use Rattle.departures.specs.declared.departure.Departure.{Departure}
use Rattle.departures.specs.Departures.{choices_of, departures, name_of}
use Rattle.departures.specs.Jobs.{AreGoodBelow, AreGoodTo, CanTakeLocals, IsJob, IsOneJob, IsReduced, IsRunOfJob}
use Rattle.departures.specs.Reductions.{AreLocal, IsLikeness, events_of}
use Rattle.departures.specs.Turns.{IsRun, IsSchedule, IsStuck, Turns, end_of}

module _ {S : Type 0} (sys : Turns S) (is_local : S → ℕ → Bool) (starts : CanTakeLocals sys is_local) where
  named_job : (n : ℕ) (s : S) (last : ℕ) (c : List ℕ) → IsSchedule sys n s c → IsReduced sys is_local s last c → IsJob sys is_local n s last (departures sys s last c) (name_of sys 0 s last c)
  named_job n s last c is reduced =
      name_is_job sys is_local starts (departures sys s last c) n s last c (name_of sys 0 s last c) (length_name sys c 0 s last) (record { schedule = is; is_reduced = reduced; name = refl })

  pub run_of_job : (n : ℕ) (s : S) (last level : ℕ) (ds : List Departure) → IsJob sys is_local n s last level ds → IsRunOfJob sys is_local n s last level ds
  run_of_job n s last level ds is =
      let fits = job_fits sys is_local starts level n s last ds is in
      record {
        schedule = fits.0.schedule;
        is_reduced = fits.0.is_reduced;
        name = fits.0.name;
        departs = sym (length_name sys (choices_of sys n 0 s last ds) 0 s last) ∙ (ap length fits.0.name ∙ fits.1);
      }

  pub one_job : (n : ℕ) (s : S) (last : ℕ) (c : List ℕ) → IsSchedule sys n s c → IsReduced sys is_local s last c → IsOneJob sys is_local n s last c
  one_job n s last c is reduced =
      record {
        job = named_job n s last c is reduced;
        run = again sys n c 0 s last is;
        size = length_name sys c 0 s last;
        only = λ level ds job runs. sym (run_of_job n s last level ds job).name ∙ ap (name_of sys 0 s last) runs;
      }

  pub covered_to : (n : ℕ) (s : S) (last most : ℕ) (IsGood : List ℕ → Type 0) → AreGoodTo sys is_local n s last most IsGood → (c : List ℕ) → IsSchedule sys n s c → IsReduced sys is_local s last c → departures sys s last c ≤ most → IsGood c
  covered_to n s last most IsGood good c is reduced within =
      subst IsGood (again sys n c 0 s last is)
      (good (departures sys s last c) within (name_of sys 0 s last c) (named_job n s last c is reduced))

  pub fewest : (n : ℕ) (s : S) (last level : ℕ) (report : List ℕ → Bool) → AreGoodBelow sys is_local n s last level (λ x. report x ≡ false) → (c : List ℕ) → IsSchedule sys n s c → IsReduced sys is_local s last c → report c ≡ true → level ≤ departures sys s last c
  fewest n s last level report good c is reduced bad =
      elim (cases_lt (departures sys s last c) level) [
        | inl less ↦ absurd (false≢true (sym (subst (λ x. report x ≡ false) (again sys n c 0 s last is) (good (departures sys s last c) less (name_of sys 0 s last c) (named_job n s last c is reduced))) ∙ bad))
        | inr most ↦ most
      ]

pub covered_by_reduced : {S E : Type 0} (sys : Turns S) (is_local : S → ℕ → Bool) (events : S → ℕ → List E) (are_alike : List E → List E → Type 0) → IsLikeness are_alike → (Holds : S → Type 0) → AreLocal sys is_local events are_alike Holds → (IsGood : S → List E → Type 0) → ((s : S) (xs ys : List E) → are_alike xs ys → IsGood s xs → IsGood s ys) → (n : ℕ) (s : S) (last most : ℕ) → Holds s
    → ((d : List ℕ) → IsSchedule sys n s d → IsReduced sys is_local s last d → IsStuck sys (end_of sys s d) → departures sys s last d ≤ most → IsGood (end_of sys s d) (events_of sys events s d))
    → (c : List ℕ) → IsRun sys s c → IsStuck sys (end_of sys s c) → length c ≤ n → departures sys s last c ≤ most → IsGood (end_of sys s c) (events_of sys events s c)
covered_by_reduced sys is_local events are_alike likeness Holds laws IsGood same n s last most holds good c run stuck long within =
    let for = each_is_stood_for sys is_local events are_alike likeness Holds laws s last c holds run stuck in
    let d = for.0 in
    let is = for.1 in
    let ends = subst (IsStuck sys) (sym is.state) stuck in
    let fits = subst (λ x. x ≤ n) (sym is.turns) long in
    subst (λ x. IsGood x (events_of sys events s c)) is.state
    (same (end_of sys s d) (events_of sys events s d) (events_of sys events s c) is.like_events
    (good d (schedule_by sys d n s is.run ends fits) is.is_reduced ends (least_of (departures sys s last d) (departures sys s last c) most is.departs within)))

-- If the runs of all jobs up to a level are good, all runs are that end within the turns and the departures.
pub covered_by_jobs : {S E : Type 0} (sys : Turns S) (is_local : S → ℕ → Bool) (events : S → ℕ → List E) (are_alike : List E → List E → Type 0) → IsLikeness are_alike → (Holds : S → Type 0) → AreLocal sys is_local events are_alike Holds → (IsGood : S → List E → Type 0) → ((s : S) (xs ys : List E) → are_alike xs ys → IsGood s xs → IsGood s ys) → (n : ℕ) (s : S) (last most : ℕ) → Holds s
    → AreGoodTo sys is_local n s last most (λ c. IsGood (end_of sys s c) (events_of sys events s c))
    → (c : List ℕ) → IsRun sys s c → IsStuck sys (end_of sys s c) → length c ≤ n → departures sys s last c ≤ most → IsGood (end_of sys s c) (events_of sys events s c)
covered_by_jobs sys is_local events are_alike likeness Holds laws IsGood same n s last most holds good c run stuck long within =
    covered_by_reduced sys is_local events are_alike likeness Holds laws IsGood same n s last most holds
    (λ d is reduced ends few. covered_to sys is_local laws.can_take n s last most (λ x. IsGood (end_of sys s x) (events_of sys events s x)) good d is reduced few)
    c run stuck long within
