-- Runs that end are within the turns, if all jobs are.
use Rattle.std.proofs.Common.{Bool, List, [], ◌∷◌, arith, false, inl, inr, length, subst, sym, take, true, ℕ, suc, zero, ◌<◌, ◌≤◌, ◌∙◌, ◌≡◌}
use Rattle.std.proofs.lemmas.Bool.{cases_lt, false≢true}
use Rattle.departures.proofs.Cover.{covered_to}
use Rattle.departures.proofs.Reduction.{each_is_stood_for, least_of}
use Rattle.departures.specs.Departures.{cost, departures}
use Rattle.departures.specs.Jobs.{AreGoodTo, CanTakeLocals, IsReduced}
use Rattle.departures.specs.Reductions.{AreLocal, IsLikeness}
use Rattle.departures.specs.Turns.{CanTake, IsRun, IsSchedule, IsStuck, Turns, end_of}

module _ {S : Type 0} (sys : Turns S) where
  -- The first turns of a longer run are a schedule of as many turns.
  first_turns : (n : ℕ) (s : S) (c : List ℕ) → IsRun sys s c → n ≤ length c → IsSchedule sys n s (take n c)
  unfolding IsSchedule IsRun
  first_turns zero s c run long = tt
  first_turns (suc n) s [] run long = absurd (omega (arith, long))
  first_turns (suc n) s (t ∷ c) run long = (run.0, first_turns n (sys.after s t) c run.1 (omega (arith, long)))

  -- After the first turns of a longer run a thread takes the next one.
  goes_on : (n : ℕ) (s : S) (c : List ℕ) → IsRun sys s c → n < length c → (t : ℕ) × CanTake sys (end_of sys s (take n c)) t
  unfolding IsRun end_of
  goes_on n s [] run long = absurd (omega (arith, long))
  goes_on zero s (t ∷ c) run long = (t, run.0)
  goes_on (suc n) s (t ∷ c) run long = goes_on n (sys.after s t) c run.1 (omega (arith, long))

  -- The first turns of a run have no more departures than all of them.
  first_departures : (n : ℕ) (s : S) (last : ℕ) (c : List ℕ) → departures sys s last (take n c) ≤ departures sys s last c
  unfolding departures
  first_departures zero s last c = omega arith
  first_departures (suc n) s last [] = omega arith
  first_departures (suc n) s last (t ∷ c) = let fewer = first_departures n (sys.after s t) t c in omega (arith, fewer)

  still_stuck : (s : S) (t : ℕ) → IsStuck sys s → CanTake sys s t → ⊥
  still_stuck s t stuck can = false≢true (sym (stuck t can.started) ∙ can.on)

  module _ (is_local : S → ℕ → Bool) where
    -- The first turns of a reduced run are reduced.
    first_reduced : (n : ℕ) (s : S) (last : ℕ) (c : List ℕ) → IsReduced sys is_local s last c → IsReduced sys is_local s last (take n c)
    unfolding IsReduced
    first_reduced zero s last c reduced = tt
    first_reduced (suc n) s last [] reduced = tt
    first_reduced (suc n) s last (t ∷ c) reduced = (reduced.0, first_reduced n (sys.after s t) t c reduced.1)

    -- A reduced run with few departures isn't longer than the turns, if the runs of all jobs end.
    reduced_within : CanTakeLocals sys is_local → (n : ℕ) (s : S) (last most : ℕ) → AreGoodTo sys is_local n s last most (λ c. IsStuck sys (end_of sys s c)) → (c : List ℕ) → IsRun sys s c → IsReduced sys is_local s last c → departures sys s last c ≤ most → length c ≤ n
    reduced_within starts n s last most good c run reduced few =
        elim (cases_lt n (length c)) [
          | inl longer ↦
              let next = goes_on n s c run longer in
              let fewer = first_departures n s last c in
              absurd
              (still_stuck (end_of sys s (take n c)) next.0
              (covered_to sys is_local starts n s last most (λ x. IsStuck sys (end_of sys s x)) good (take n c) (first_turns n s c run (omega (arith, longer))) (first_reduced n s last c reduced) (omega (arith, fewer, few)))
              next.1)
          | inr within ↦ within
        ]

-- If the runs of all jobs up to a level end, all runs that end within the departures are within the turns.
pub runs_within : {S E : Type 0} (sys : Turns S) (is_local : S → ℕ → Bool) (events : S → ℕ → List E) (are_alike : List E → List E → Type 0) → IsLikeness are_alike → (Holds : S → Type 0) → AreLocal sys is_local events are_alike Holds → (n : ℕ) (s : S) (last most : ℕ) → Holds s
    → AreGoodTo sys is_local n s last most (λ c. IsStuck sys (end_of sys s c))
    → (c : List ℕ) → IsRun sys s c → IsStuck sys (end_of sys s c) → departures sys s last c ≤ most → length c ≤ n
runs_within sys is_local events are_alike likeness Holds laws n s last most holds good c run stuck few =
    let for = each_is_stood_for sys is_local events are_alike likeness Holds laws s last c holds run stuck in
    let d = for.0 in
    let is = for.1 in
    subst (λ x. x ≤ n) is.turns
    (reduced_within sys is_local laws.can_take n s last most good d is.run is.is_reduced (least_of (departures sys s last d) (departures sys s last c) most is.departs few))
