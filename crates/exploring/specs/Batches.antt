-- What the runs of consecutive jobs gave.
use Rattle.std.specs.Prelude.{◌≡◌, ℕ, List, [], Option, Ok, IfSome, slice_get, unwrap_or}
use Rattle.std.specs.List.{AllZip}
use Rattle.std.specs.declared.alloc.Global.{Global}
use Rattle.std.specs.declared.vec.Vec.{Vec}
use Rattle.departures.specs.declared.departure.Departure.{Departure}
use Rattle.explore_jobs.specs.Children.{with_each}
use Rattle.explore_jobs.specs.declared.plan.Plan.{Plan}
use Rattle.exploring.specs.Explorations.{children_at}
use Rattle.exploring.specs.Levels.{LevelJobs}
use Rattle.jvms_machine.specs.Opening.{start_of_entry}
use Rattle.jvms_machine.specs.Start.{Start}
use Rattle.jvms_program.specs.declared.program.Class.{Class}

-- Returns the job of a level at an index.
abbrev pub job_at : LevelJobs → ℕ → List Departure
job_at level index = unwrap_or (slice_get level.jobs index) []

-- What was found for each job, if anything was, is as it should be.
abbrev pub AreFound : {X : Type 0} → (List Departure → X → Type 0) → List (List Departure) → List (Option X) → Type 0
AreFound IsFor jobs found = AllZip (λ job one. IfSome one (IsFor job)) jobs found

-- These departures are what the children of a job add, by position and thread.
abbrev pub AddsChildrenOf : List Class → Plan → List Departure → Vec Departure Global → Type 0
AddsChildrenOf program plan job added =
    (start : Start) → start_of_entry program plan.limits plan.entry ≡ Ok start
    → with_each job added.items ≡ children_at program plan start job
