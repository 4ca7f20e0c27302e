-- Jobs whose run fails in a way, and of which no single departure can be left out.
use Rattle.std.specs.Prelude.{◌≡◌, ℕ, ◌<◌, Bool, false, List, length}
use Rattle.departures.specs.declared.departure.Departure.{Departure}
use Rattle.explore_jobs.specs.Fates.{IsFateOf}
use Rattle.explore_jobs.specs.declared.fate.Fate.{Fate}
use Rattle.explore_jobs.specs.declared.plan.Plan.{Plan}
use Rattle.jvms_program.specs.declared.program.Class.{Class}
use Rattle.shrinking.specs.Failures.{fails_by}
use Rattle.shrinking.specs.Parts.{without}
use Rattle.shrinking.specs.declared.failure.Failure.{Failure}

module _ (program : List Class) (plan : Plan) (way : Failure) where
  -- The run of the job with these departures has a fate, and this says whether it fails in this way.
  abbrev pub IsTestOf : List Departure → Bool → Type 0
  IsTestOf departures fails =
      (fate : Fate) × IsFateOf program plan departures fate × (fails_by plan.most way fate ≡ fails)

  -- Without any one of the first departures, this number of them, the run doesn't fail in this way.
  abbrev pub AreNeeded : ℕ → List Departure → Type 0
  AreNeeded count departures = (index : ℕ) → index < count → IsTestOf (without index 1 departures) false

  -- No single departure can be left out.
  abbrev pub IsLeast : List Departure → Type 0
  IsLeast departures = AreNeeded (length departures) departures
