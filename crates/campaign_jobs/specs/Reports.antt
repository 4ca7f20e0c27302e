-- Defines what the result of a job is, and when its events have a serial order (Velodrome, sections 3 and 4).
use Rattle.std.specs.Prelude.{◌≡◌, ℕ, List, length, Result, Ok, Err}
use Rattle.jvms_file.specs.Results.{◌>>=◌}
use Rattle.jvms_program.specs.declared.program.Class.{Class}
use Rattle.jvms_machine.specs.Opening.{StartFault, start_of_entry}
use Rattle.jvms_machine.specs.Start.{Start}
use Rattle.program_runs.specs.machine.Started.{opened_machine}
use Rattle.velodrome.specs.Cycles.{AreAtomic, IsCycle}
use Rattle.velodrome.specs.Rearrangements.{IsRearrangement, IsSerial}
use Rattle.velodrome.specs.Specification.{Specification}
use Rattle.velodrome.specs.Transactions.{trace_state_of}
use Rattle.program_runs.specs.Shown.{Shown, view_of_choices}
use Rattle.campaign_jobs.specs.declared.plan.Plan.{Plan}
use Rattle.campaign_jobs.specs.declared.result.JobResult.{JobResult}
use Rattle.campaign_jobs.specs.Atomicities.{IsAtomicityOf}
use Rattle.campaign_jobs.specs.Choices.{choices_by}
use Rattle.campaign_jobs.specs.Plans.{stream_of}

-- Returns what the run of a job shows, from where the entry starts. The generator of its random words has the
-- plan's seed as its state. Its stream is the job's number, counted from the plan's first stream. The plan says whether
-- the words name the threads or their priorities.
abbrev pub job_from : List Class → Plan → ℕ → Start → Shown
job_from program plan number start =
    let m = opened_machine program plan.limits start in
    view_of_choices m (choices_by plan.choosing plan.most plan.seed (stream_of plan number) m)

-- Returns what the run of a job shows, or why no machine is made for it.
unfoldable pub job_shown : List Class → Plan → ℕ → Result Shown StartFault
job_shown program plan number = do
  start ← start_of_entry program plan.limits plan.entry
  Ok (job_from program plan number start)

-- The result is that of a run under a specification: its atomicity, status, and numbers of turns and of events.
pub record IsResultOn (lines : Specification) (shown : Shown) (r : JobResult) : Type 0 where
  pub atomicity : IsAtomicityOf (trace_state_of lines shown.items).events r.atomicity
  pub status : r.status ≡ shown.status
  pub turns : r.turns ≡ length shown.choices
  pub events : r.events ≡ length (trace_state_of lines shown.items).events

-- There is a run, and the result is its result under a specification.
abbrev pub IsResultIn : Specification → Result Shown StartFault → JobResult → Type 0
IsResultIn lines (Ok shown) r = IsResultOn lines shown r
IsResultIn lines (Err why) r = ⊥

-- The result is that of the job of this number. It doesn't matter which cycle shows it.
abbrev pub IsResultOf : List Class → Plan → ℕ → JobResult → Type 0
IsResultOf program plan number r = ∥ IsResultIn plan.spec (job_shown program plan number) r ∥₁

-- There is a run, its events have no cycle, and these are their numbers in a serial order.
abbrev pub IsSerialIn : Specification → Result Shown StartFault → List ℕ → Type 0
IsSerialIn lines (Ok shown) numbers =
    let events = (trace_state_of lines shown.items).events in AreAtomic events × IsSerial events numbers
IsSerialIn lines (Err why) numbers = ⊥

-- There is a run, its events have a cycle, and no rearrangement of them is serial.
abbrev pub HasNoneIn : Specification → Result Shown StartFault → Type 0
HasNoneIn lines (Ok shown) =
    let events = (trace_state_of lines shown.items).events in
    ((transactions : List ℕ) × IsCycle events transactions) × ((numbers : List ℕ) → IsRearrangement events numbers → ⊥)
HasNoneIn lines (Err why) = ⊥

-- The events of the job of this number have no cycle, and these are their numbers in a serial order.
abbrev pub IsSerialOf : List Class → Plan → ℕ → List ℕ → Type 0
IsSerialOf program plan number numbers = IsSerialIn plan.spec (job_shown program plan number) numbers

-- The events of the job of this number have a cycle, and no rearrangement of them is serial.
abbrev pub HasNoSerialOrder : List Class → Plan → ℕ → Type 0
HasNoSerialOrder program plan number = HasNoneIn plan.spec (job_shown program plan number)
