-- The runs of jobs that don't fail end well.
use Rattle.std.proofs.Common.{Bool, List, None, arith, inl, inr, suc, Option, Result, Ok, Some, [], false, length, nat_lt, refl, subst, sym, true, ℕ, ◌∙◌, ◌∷◌, ◌≡◌}
use Rattle.std.proofs.Math.Logic.{∥∥₁_elim}
use Rattle.std.proofs.lemmas.Bool.{false≢true}
use Rattle.std.proofs.lemmas.Bool.Decides.{nat_tests}
use Rattle.std.proofs.lemmas.Iterator.Adapters.{position_from-zero}
use Rattle.std.specs.List.{AllByRecursion, AllZip, position_from}
use Rattle.std.specs.Prelude.{cond, not, ◌+◌, ◌||◌}
use Rattle.jvms_file.specs.Results.{◌>>=◌}
use Rattle.explore_jobs.specs.campaign_jobs.Atomicities.{IsAtomicityOf, has_cycle}
use Rattle.explore_jobs.specs.declared.campaign_jobs.Atomicity.{Atomicity}
use Rattle.explore_jobs.specs.declared.campaign_jobs.Atomicity.TheVariants as atomicity
use Rattle.departures.proofs.Cover.{run_of_job}
use Rattle.departures.proofs.Lists.{level_has}
use Rattle.departures.specs.Departures.{choices_of, name_of}
use Rattle.departures.specs.Jobs.{CanTakeLocals, IsIn, IsJob}
use Rattle.departures.specs.Turns.{IsSchedule, Turns}
use Rattle.departures.specs.declared.departure.Departure.{Departure}
use Rattle.exploration_parts.proofs.Parts.{part_in}
use Rattle.exploration_parts.specs.declared.part.Part.{Part}
use Rattle.explore_jobs.specs.Fates.{IsFateIn, IsFateOf, IsFateOn, fails, is_finished}
use Rattle.explore_jobs.specs.declared.fate.Fate.{Fate}
use Rattle.explore_jobs.specs.declared.plan.Plan.{Plan}
use Rattle.explore_laws.specs.Coverage.{EndsWell}
use Rattle.exploring.specs.Explorations.{JobEndsWell, first_failing, jobs_at, jobs_in}
use Rattle.jvms_machine.specs.Opening.{StartFault, opening, start_of_entry}
use Rattle.jvms_machine.specs.Start.{Start}
use Rattle.jvms_machine.specs.State.{State}
use Rattle.jvms_machine.specs.declared.machine.Status.{Status}
use Rattle.jvms_machine.specs.declared.machine.Status.TheVariants as status
use Rattle.jvms_program.specs.declared.program.Class.{Class}
use Rattle.explore_jobs.specs.Stays.{stays}
use Rattle.local_turns.specs.Turns.{turns_of}
use Rattle.program_runs.specs.machine.Machine.{Machine}
use Rattle.program_runs.specs.machine.Started.{opened_machine}
use Rattle.program_runs.specs.Shown.{Shown, view_of_program, view_of_run}
use Rattle.program_runs.specs.runs.Choices.{choices_from}
use Rattle.explore_laws.specs.schedule.Choosers.{chooser_of_schedule}
use Rattle.explore_laws.specs.schedule.Schedules.{Staying}
use Rattle.velodrome.specs.Cycles.{AreAtomic}
use Rattle.velodrome.specs.Transactions.{Event, trace_state_of}

-- ---- What doesn't depend on how it is known

nothing_twice : (a b : ⊥) → a ≡ b
nothing_twice a b = absurd a

finished_by : {A : Type 0} (s : Status) → ∥ A ∥₁ → (A → s ≡ status.Finished) → s ≡ status.Finished
finished_by status.Finished known is = refl
finished_by status.Running known is = absurd (∥∥₁_elim known nothing_twice (λ a. let same = is a in absurd (cc)))
finished_by status.Stalled known is = absurd (∥∥₁_elim known nothing_twice (λ a. let same = is a in absurd (cc)))
finished_by status.Deadlocked known is = absurd (∥∥₁_elim known nothing_twice (λ a. let same = is a in absurd (cc)))

none_by : {A X : Type 0} (xs : List X) → ∥ A ∥₁ → (A → xs ≡ []) → xs ≡ []
none_by [] known is = refl
none_by (x ∷ xs) known is = absurd (∥∥₁_elim known nothing_twice (λ a. let same = is a in absurd (cc)))

-- ---- A run that doesn't fail

either_off : (a b : Bool) → (a || b) ≡ false → (a ≡ false) × (b ≡ false)
either_off true b is = absurd (cc)
either_off false b is = (refl, is)

not_off : (b : Bool) → not b ≡ false → b ≡ true
not_off true is = refl
not_off false is = absurd (cc)

is_finished_is : (s : Status) → is_finished s ≡ true → s ≡ status.Finished
is_finished_is status.Finished is = refl
is_finished_is status.Running is = absurd (cc)
is_finished_is status.Stalled is = absurd (cc)
is_finished_is status.Deadlocked is = absurd (cc)

is_atomic : (events : List Event) (a : Atomicity) → IsAtomicityOf events a → has_cycle a ≡ false → AreAtomic events
is_atomic events atomicity.Atomic is none = is
is_atomic events (atomicity.Cycle first_at) is none = absurd (cc)

no_thread : {X : Type 0} (xs : List X) → false ≡ nat_lt 0 (length xs) → xs ≡ []
no_thread [] is = refl
no_thread (x ∷ xs) is = let some : nat_lt 0 (suc (length xs)) ≡ true = grind (arith, nat_tests) in absurd (false≢true (is ∙ some))

-- The choices of a chooser of a job's departures are the job's.
abbrev pub Made : Type 0
Made =
    (m : Machine) (turns : ℕ) (choices : List ℕ) → IsSchedule (turns_of m.program m.limits m.start) turns m.state choices
    → choices_from turns (chooser_of_schedule (Staying (name_of (turns_of m.program m.limits m.start) 0 m.state 0 choices))) m ≡ choices

module _ (program : List Class) (plan : Plan) (start : Start) where
  abbrev sys : Turns State
  sys = turns_of program plan.limits start

  abbrev local : State → ℕ → Bool
  local = stays program plan.limits start plan.within

  abbrev opened : Machine
  opened = opened_machine program plan.limits start

  abbrev shown_of : List Departure → Shown
  shown_of ds = view_of_run plan.most (chooser_of_schedule (Staying ds)) opened

  abbrev chosen : List Departure → List ℕ
  chosen ds = choices_from plan.most (chooser_of_schedule (Staying ds)) opened

  ends_well : (ds : List Departure) (fate : Fate) → ∥ IsFateOn plan.spec (shown_of ds) fate ∥₁ → fails fate ≡ false → EndsWell program plan.limits start plan.spec (opening program) (chosen ds)
  ends_well ds fate known good =
      let both = either_off (has_cycle fate.result.atomicity || fate.has_uncaught) (not (is_finished fate.result.status)) good in
      let parts = either_off (has_cycle fate.result.atomicity) fate.has_uncaught both.0 in
      let ended = is_finished_is fate.result.status (not_off (is_finished fate.result.status) both.1) in
      record {
        finished = finished_by (shown_of ds).status known (λ on. sym on.result.status ∙ ended);
        caught = none_by (shown_of ds).uncaught known (λ on. no_thread (shown_of ds).uncaught (sym parts.1 ∙ on.uncaught));
        atomic = λ transactions cycle.
            ∥∥₁_elim known nothing_twice
            (λ on. is_atomic (trace_state_of plan.spec (shown_of ds).items).events fate.result.atomicity on.result.atomicity parts.0 transactions cycle);
      }

  fated : (r : Result Start StartFault) (ds : List Departure) (fate : Fate) → start_of_entry program plan.limits plan.entry ≡ r → r ≡ Ok start → IsFateOf program plan ds fate → ∥ IsFateOn plan.spec (shown_of ds) fate ∥₁
  unfolding view_of_program
  fated r ds fate found is of =
      subst (λ (x : Result Start StartFault). ∥ IsFateIn plan.spec (x >>= λ from. Ok (view_of_run plan.most (chooser_of_schedule (Staying ds)) (opened_machine program plan.limits from))) fate ∥₁)
      (found ∙ is) of

  job_choices : Made → CanTakeLocals sys local → (level : ℕ) (ds : List Departure) → IsJob sys local plan.most (opening program) 0 level ds → chosen ds ≡ choices_of sys plan.most 0 (opening program) 0 ds
  job_choices made can level ds job =
      let run = run_of_job sys local can plan.most (opening program) 0 level ds job in
      subst (λ (n : List Departure). choices_from plan.most (chooser_of_schedule (Staying n)) opened ≡ choices_of sys plan.most 0 (opening program) 0 ds) run.name
      (made opened plan.most (choices_of sys plan.most 0 (opening program) 0 ds) run.schedule)

  -- ---- All jobs of a level

  record HasFate (ds : List Departure) : Type 0 where
    fate : Fate
    is : IsFateOf program plan ds fate
    good : fails fate ≡ false

  none_from : (b : Bool) (i : ℕ) (rest : Option ℕ) → cond b (Some i) rest ≡ None → (b ≡ false) × (rest ≡ None)
  none_from true i rest is = absurd (cc)
  none_from false i rest is = (refl, is)

  none_later : (fates : List Fate) (i : ℕ) → position_from fails i fates ≡ None → AllByRecursion (λ fate. fails fate ≡ false) fates
  none_later [] i none = tt
  none_later (fate ∷ fates) i none = let both = none_from (fails fate) i (position_from fails (i + 1) fates) none in (both.0, none_later fates (i + 1) both.1)

  has_fate : (ds : List Departure) (jobs : List (List Departure)) (fates : List Fate) → IsIn ds jobs → AllZip (IsFateOf program plan) jobs fates → AllByRecursion (λ fate. fails fate ≡ false) fates → HasFate ds
  unfolding IsIn
  has_fate ds [] fates on are none = absurd on
  has_fate ds (job ∷ jobs) [] on are none = absurd are
  has_fate ds (job ∷ jobs) (fate ∷ fates) (inl same) are none =
      record { fate = fate; is = subst (λ (d : List Departure). IsFateOf program plan d fate) same are.0; good = none.0 }
  has_fate ds (job ∷ jobs) (fate ∷ fates) (inr on) are none = has_fate ds jobs fates on are.1 none.1

  -- What is among the jobs of a level, or of a part of it, is a job of the level.
  is_job : (part : Option Part) (level : ℕ) (ds : List Departure) → IsIn ds (jobs_in program plan start part level) → IsJob sys local plan.most (opening program) 0 level ds
  is_job None level ds is = level_has sys local level plan.most (opening program) 0 ds is
  is_job (Some part) level ds is = level_has sys local level plan.most (opening program) 0 ds (part_in sys local part plan.most (opening program) 0 level ds is)

  pub level_ends_well : Made → CanTakeLocals sys local → start_of_entry program plan.limits plan.entry ≡ Ok start → (level : ℕ) (fates : List Fate) → AllZip (IsFateOf program plan) (jobs_at program plan start level) fates → first_failing fates ≡ None
      → (ds : List Departure) → IsIn ds (jobs_at program plan start level) → JobEndsWell program plan start ds
  level_ends_well made can is level fates are none ds job =
      let has = has_fate ds (jobs_at program plan start level) fates job are (none_later fates 0 (sym (position_from-zero fails fates) ∙ none)) in
      subst (λ (choices : List ℕ). EndsWell program plan.limits start plan.spec (opening program) choices) (job_choices made can level ds (is_job plan.part level ds job))
      (ends_well ds has.fate (fated (start_of_entry program plan.limits plan.entry) ds has.fate refl is has.is) has.good)
