-- How the run of a job ends, and which runs fail.
use Rattle.std.specs.Prelude.{◌≡◌, Bool, true, false, not, ◌||◌, List, length, nat_lt, Result, Ok, Err}
use Rattle.campaign_jobs.specs.Atomicities.{has_cycle}
use Rattle.campaign_jobs.specs.Reports.{IsResultOn}
use Rattle.departures.specs.declared.departure.Departure.{Departure}
use Rattle.explore_jobs.specs.Plans.{job_shown}
use Rattle.explore_jobs.specs.declared.fate.Fate.{Fate}
use Rattle.explore_jobs.specs.declared.plan.Plan.{Plan}
use Rattle.jvms_machine.specs.Opening.{StartFault}
use Rattle.jvms_machine.specs.declared.machine.Status.{Status}
use Rattle.jvms_machine.specs.declared.machine.Status.TheVariants as status
use Rattle.jvms_program.specs.declared.program.Class.{Class}
use Rattle.campaign_jobs.specs.program_runs.Shown.{Shown}
use Rattle.velodrome.specs.Specification.{Specification}

-- Decides whether all threads of a run have ended.
abbrev pub is_finished : Status → Bool
is_finished status.Finished = true
is_finished other = false

-- Decides whether a run fails: it has a cycle, a thread ended by an exception, or some thread hasn't ended.
abbrev pub fails : Fate → Bool
fails fate = has_cycle fate.result.atomicity || fate.has_uncaught || not (is_finished fate.result.status)

-- The fate is that of a run under a specification: its result, and whether a thread ended by an exception.
pub record IsFateOn (lines : Specification) (shown : Shown) (fate : Fate) : Type 0 where
  pub result : IsResultOn lines shown fate.result
  pub uncaught : fate.has_uncaught ≡ nat_lt 0 (length shown.uncaught)

-- There is a run, and the fate is its fate under a specification.
abbrev pub IsFateIn : Specification → Result Shown StartFault → Fate → Type 0
IsFateIn lines (Ok shown) fate = IsFateOn lines shown fate
IsFateIn lines (Err why) fate = ⊥

-- The fate is that of the job with these departures. It doesn't matter which cycle shows it.
abbrev pub IsFateOf : List Class → Plan → List Departure → Fate → Type 0
IsFateOf program plan departures fate = ∥ IsFateIn plan.spec (job_shown program plan departures) fate ∥₁
