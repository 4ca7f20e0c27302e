-- Steps of a search for departures that can be left out.
use Rattle.std.proofs.Common.{List, arith, false, inl, inr, length, nat_eq, subst, true, ℕ, ◌+◌, ◌<◌, ◌≤◌, ◌≡◌}
use Rattle.std.proofs.lemmas.Bool.{cases_lt}
use Rattle.std.proofs.lemmas.Bool.Decides.{nat_tests}
use Rattle.departures.specs.declared.departure.Departure.{Departure}
use Rattle.explore_jobs.specs.Fates.{IsFateOf}
use Rattle.explore_jobs.specs.declared.fate.Fate.{Fate}
use Rattle.explore_jobs.specs.declared.plan.Plan.{Plan}
use Rattle.jvms_program.specs.declared.program.Class.{Class}
use Rattle.shrinking.specs.Failures.{fails_by}
use Rattle.shrinking.specs.Least.{AreNeeded, IsLeast, IsTestOf}
use Rattle.shrinking.specs.Parts.{without}
use Rattle.shrinking.specs.declared.failure.Failure.{Failure}

module _ (program : List Class) (plan : Plan) (way : Failure) where
  -- One more departure was tried, and is needed.
  pub one_needed : (all : List Departure) (from count size : ℕ) (fate : Fate) → count ≤ size → size ≤ 1 → AreNeeded program plan way from all
      → IsFateOf program plan (without from count all) fate → fails_by plan.most way fate ≡ false → AreNeeded program plan way (from + count) all
  one_needed all from count size fate within small tried is avoids = λ index less.
      elim (cases_lt index from) [
        | inl before ↦ tried index before
        | inr past ↦
            let here : from ≡ index = omega arith in
            let one : count ≡ 1 = omega arith in
            subst (λ (i : ℕ). IsTestOf program plan way (without i 1 all) false) here
            (subst (λ (n : ℕ). IsTestOf program plan way (without from n all) false) one (fate, is, avoids))
      ]

  pub none_needed : (all : List Departure) → AreNeeded program plan way 0 all
  none_needed all = λ index less. absurd (omega arith)

  -- No departures are least.
  pub none_is_least : (all : List Departure) → length all ≡ 0 → IsLeast program plan way all
  none_is_least all none = λ index less. absurd (omega arith)

pub none_left : (count : ℕ) → nat_eq count 0 ≡ true → count ≡ 0
none_left count is = grind (arith, nat_tests, is)

pub is_some_left : (count : ℕ) → nat_eq count 0 ≡ false → 0 < count
is_some_left count is = grind (arith, nat_tests, is)
