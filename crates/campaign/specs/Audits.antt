-- Defines what an audit finds (own).
use Rattle.std.specs.Prelude.{◌≡◌, ℕ, suc, ◌⊎◌, List, [], ◌∷◌, Option, Some, None, Result, Ok, Err, slice_get}
use Rattle.jvms_program.specs.declared.program.Class.{Class}
use Rattle.campaign_jobs.specs.declared.plan.Plan.{Plan}
use Rattle.campaign_jobs.specs.declared.result.JobResult.{JobResult}
use Rattle.campaign_jobs.specs.Reports.{IsResultOf}

-- The numbers are those of the results that aren't their jobs', in ascending order. The first result has number
-- `first`.
abbrev pub AreDifferent : List Class → Plan → ℕ → List JobResult → List ℕ → Type 0
AreDifferent program plan first [] numbers = numbers ≡ []
AreDifferent program plan first (r ∷ rs) numbers =
    (IsResultOf program plan first r × AreDifferent program plan (suc first) rs numbers)
    ⊎ ((IsResultOf program plan first r → ⊥)
    × ((rest : List ℕ) × (numbers ≡ first ∷ rest) × AreDifferent program plan (suc first) rs rest))

-- The finding for one result is nothing if it is that of its job, its number if it isn't, or the reason why the job
-- wasn't run.
unfoldable pub IsFinding : {E : Type 0} → List Class → Plan → ℕ → JobResult → Option (Result ℕ E) → Type 0
IsFinding program plan number r None = IsResultOf program plan number r
IsFinding program plan number r (Some (Ok n)) = (n ≡ number) × (IsResultOf program plan number r → ⊥)
IsFinding program plan number r (Some (Err why)) = Unit {0}

-- The finding for the result at the place of its number.
abbrev pub IsFindingAt : {E : Type 0} → List Class → Plan → List JobResult → ℕ → Option (Result ℕ E) → Type 0
IsFindingAt program plan results number finding =
    (r : JobResult) → slice_get results number ≡ Some r → IsFinding program plan number r finding
