-- What the jobs of an exploration cover that leaves some threads alone: reduced runs, whichever threads stay where.
use Rattle.std.proofs.Common.{Bool, List, [], ◌∷◌, IsTrue, arith, false, inl, inr, length, subst, sym, take, true, ℕ, suc, zero, ◌<◌, ◌≤◌, ◌∙◌, ◌≡◌}
use Rattle.std.proofs.lemmas.Bool.{cases_lt, false≢true}
use Rattle.departures.proofs.Cover.{covered_to}
use Rattle.departures.proofs.Reduction.{schedule_by}
use Rattle.departures.specs.Departures.{departures}
use Rattle.departures.specs.Jobs.{AreGoodTo, CanTakeLocals, IsReduced}
use Rattle.departures.specs.Turns.{CanTake, IsRun, IsSchedule, IsStuck, Turns, end_of}
use Rattle.explore_laws.proofs.Ended.{finished_is_stuck}
use Rattle.explore_laws.specs.Coverage.{EndsWell, IsWholeRun}
use Rattle.jvms_machine.specs.Start.{Start}
use Rattle.jvms_machine.specs.State.{State}
use Rattle.jvms_machine.specs.declared.machine.Limits.{Limits}
use Rattle.jvms_program.specs.declared.program.Class.{Class}
use Rattle.local_turns.proofs.Covered.{end_is}
use Rattle.local_turns.specs.Turns.{turns_of}
use Rattle.velodrome.specs.Specification.{Specification}

module _ {S : Type 0} (sys : Turns S) where
  -- The first turns of a longer run are a schedule of as many turns.
  first_turns : (n : ℕ) (s : S) (c : List ℕ) → IsRun sys s c → n ≤ length c → IsSchedule sys n s (take n c)
  unfolding IsSchedule IsRun
  first_turns zero s c run long = tt
  first_turns (suc n) s [] run long = absurd (omega (arith, long))
  first_turns (suc n) s (t ∷ c) run long = (run.0, first_turns n (sys.after s t) c run.1 (omega (arith, long)))

  -- After the first turns of a longer run a thread takes the next one.
  goes_on : (n : ℕ) (s : S) (c : List ℕ) → IsRun sys s c → n < length c → (t : ℕ) × CanTake sys (end_of sys s (take n c)) t
  unfolding IsRun end_of
  goes_on n s [] run long = absurd (omega (arith, long))
  goes_on zero s (t ∷ c) run long = (t, run.0)
  goes_on (suc n) s (t ∷ c) run long = goes_on n (sys.after s t) c run.1 (omega (arith, long))

  -- The first turns of a run have no more departures than all of them.
  first_departures : (n : ℕ) (s : S) (last : ℕ) (c : List ℕ) → departures sys s last (take n c) ≤ departures sys s last c
  unfolding departures
  first_departures zero s last c = omega arith
  first_departures (suc n) s last [] = omega arith
  first_departures (suc n) s last (t ∷ c) = let fewer = first_departures n (sys.after s t) t c in omega (arith, fewer)

  module _ (stays : S → ℕ → Bool) where
    -- The first turns of a reduced run are reduced.
    first_reduced : (n : ℕ) (s : S) (last : ℕ) (c : List ℕ) → IsReduced sys stays s last c → IsReduced sys stays s last (take n c)
    unfolding IsReduced
    first_reduced zero s last c reduced = tt
    first_reduced (suc n) s last [] reduced = tt
    first_reduced (suc n) s last (t ∷ c) reduced = (reduced.0, first_reduced n (sys.after s t) t c reduced.1)

    -- A reduced run with few departures isn't longer than the turns, if the runs of all jobs end.
    within : CanTakeLocals sys stays → (n : ℕ) (s : S) (last most : ℕ) → AreGoodTo sys stays n s last most (λ c. IsStuck sys (end_of sys s c)) → (c : List ℕ) → IsRun sys s c → IsReduced sys stays s last c → departures sys s last c ≤ most → length c ≤ n
    within can n s last most good c run reduced few =
        elim (cases_lt n (length c)) [
          | inl longer ↦
              let next = goes_on n s c run longer in
              let fewer = first_departures n s last c in
              let stuck = covered_to sys stays can n s last most (λ x. IsStuck sys (end_of sys s x)) good (take n c) (first_turns n s c run (omega (arith, longer))) (first_reduced n s last c reduced) (omega (arith, fewer, few)) in
              absurd (false≢true (sym (stuck next.0 next.1.started) ∙ next.1.on))
          | inr short ↦ short
        ]

module _ (program : List Class) (limits : Limits) (start : Start) (stays : State → ℕ → Bool) (can : CanTakeLocals (turns_of program limits start) stays) where
  pub covered : (lines : Specification) (turns : ℕ) (s : State) (most : ℕ) → AreGoodTo (turns_of program limits start) stays turns s 0 most (EndsWell program limits start lines s) → (choices : List ℕ) → IsWholeRun program limits start s most choices
      → IsReduced (turns_of program limits start) stays s 0 choices → (length choices ≤ turns) × EndsWell program limits start lines s choices
  covered lines turns s most good choices run reduced =
      let sys = turns_of program limits start in
      let stuck = subst (IsStuck sys) (sym (end_is program limits start choices s)) run.ends in
      let short =
      within sys stays can turns s 0 most
      (λ level below ds job.
      let well = good level below ds job in
      subst (IsStuck sys) (sym (end_is program limits start _ s)) (finished_is_stuck program limits start _ well.finished))
      choices run.run reduced run.few
      in
      (short, covered_to sys stays can turns s 0 most (EndsWell program limits start lines s) good choices (schedule_by sys choices turns s run.run stuck short) reduced run.few)
