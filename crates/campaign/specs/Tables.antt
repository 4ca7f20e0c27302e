-- Defines the table of a campaign (own).
use Rattle.std.specs.Prelude.{◌≡◌, ℕ, ◌+◌, ◌<◌, ◌≤◌, ◌⊎◌, List, length, true, false, Some, slice_get}
use Rattle.jvms_program.specs.declared.program.Class.{Class}
use Rattle.campaign_jobs.specs.declared.plan.Plan.{Plan}
use Rattle.campaign_jobs.specs.declared.result.JobResult.{JobResult}
use Rattle.campaign_jobs.specs.Atomicities.{has_cycle}
use Rattle.campaign_jobs.specs.Reports.{IsResultOf}

-- The job with this number has no cycle.
abbrev pub HasNoCycle : List Class → Plan → ℕ → Type 0
HasNoCycle program plan number = (r : JobResult) → IsResultOf program plan number r → has_cycle r.atomicity ≡ false

-- The result at this place has no cycle.
abbrev pub HasNoCycleAt : List JobResult → ℕ → Type 0
HasNoCycleAt results k = (r : JobResult) → slice_get results k ≡ Some r → has_cycle r.atomicity ≡ false

-- The results are those of the jobs from 0 on. If the plan stops, none but the last has a cycle.
pub record IsBeginning (program : List Class) (plan : Plan) (results : List JobResult) : Type 0 where
  pub within : length results ≤ plan.jobs
  pub right : (k : ℕ) (r : JobResult) → slice_get results k ≡ Some r → IsResultOf program plan k r
  pub before : plan.stop ≡ true → (k : ℕ) → k + 1 < length results → HasNoCycleAt results k

-- The last result has a cycle.
abbrev pub EndsWithCycle : List JobResult → Type 0
EndsWithCycle results =
    (k : ℕ) × (r : JobResult) × (k + 1 ≡ length results) × (slice_get results k ≡ Some r) × (has_cycle r.atomicity ≡ true)

-- The results are those of all jobs. If the plan stops, they may end with the first that has a cycle.
pub record IsTable (program : List Class) (plan : Plan) (results : List JobResult) : Type 0 where
  pub beginning : IsBeginning program plan results
  pub all : (length results ≡ plan.jobs) ⊎ ((plan.stop ≡ true) × EndsWithCycle results)
