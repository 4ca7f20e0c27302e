-- Defines why a campaign has no table.
use Rattle.std.specs.Prelude.{◌≡◌, ℕ, ◌<◌, ◌≤◌, ◌⊎◌, List, Result, Err}
use Rattle.jvms_program.specs.declared.program.Class.{Class}
use Rattle.campaign_desk.specs.Limits.{most_jobs, most_workers, FitsLimits}
use Rattle.campaign_book.specs.declared.fault.StoreFault.TheVariants as store_fault
use Rattle.campaign_jobs.specs.declared.plan.Plan.{Plan}
use Rattle.campaign.specs.declared.halt.Halted.{Halted}
use Rattle.campaign.specs.declared.halt.Halted.TheVariants.{TooManyJobs, TooManyWorkers, Memory, WorkerFailed}

-- The book that a halted campaign leaves is of this program and this plan. Its type ensures the rest.
abbrev pub KeepsBook : List Class → Plan → Halted → Type 0
KeepsBook program plan (WorkerFailed book cause) = (book.program ≡ program) × (book.plan ≡ plan)
KeepsBook program plan halted = Unit {0}

-- A limit is reported if and only if it is the first that is exceeded.
abbrev pub KeepsLimits : {X : Type 0} → ℕ → ℕ → Result X Halted → Type 0
KeepsLimits jobs workers (Err TooManyJobs) = most_jobs < jobs
KeepsLimits jobs workers (Err TooManyWorkers) = (jobs ≤ most_jobs) × ((workers ≡ 0) ⊎ (most_workers < workers))
KeepsLimits jobs workers other = FitsLimits jobs workers

-- A campaign that had begun halts for a refused growth alone.
abbrev pub IsRefusedGrowth : Halted → Type 0
IsRefusedGrowth (WorkerFailed book cause) = cause ≡ store_fault.Memory
IsRefusedGrowth halted = Unit {0}

-- Memory ran out, before any worker began or later.
abbrev pub IsMemory : Halted → Type 0
IsMemory Memory = Unit {0}
IsMemory (WorkerFailed book cause) = cause ≡ store_fault.Memory
IsMemory other = ⊥
