-- The jobs of the next level, as they are found.
use Rattle.std.specs.Prelude.{◌≡◌, ℕ, List, length, take, Ok}
use Rattle.departures.specs.declared.departure.Departure.{Departure}
use Rattle.exploring.specs.Explorations.{Explored, children_of_all, level_in, next_jobs}
use Rattle.exploring.specs.declared.growth.Growth.{Growth}
use Rattle.jvms_machine.specs.Opening.{start_of_entry}
use Rattle.jvms_machine.specs.Start.{Start}

-- These are the jobs that were found, of which at most this number are kept.
pub record IsGrowthOf (room : ℕ) (jobs : List (List Departure)) (growth : Growth) : Type 0 where
  pub kept : growth.jobs.jobs ≡ take room jobs
  pub count : growth.count ≡ length jobs

-- These are the children of all jobs of a level.
abbrev pub AreChildrenIn : Explored → ℕ → Growth → Type 0
AreChildrenIn e room growth =
    (start : Start) → start_of_entry e.program e.plan.limits e.plan.entry ≡ Ok start
    → IsGrowthOf room (children_of_all e.program e.plan start e.jobs.jobs) growth

-- These are the jobs of the next level.
abbrev pub AreNextIn : Explored → ℕ → Growth → Type 0
AreNextIn e room growth =
    (start : Start) → start_of_entry e.program e.plan.limits e.plan.entry ≡ Ok start
    → IsGrowthOf room (next_jobs e.program e.plan start e.plan.part (level_in e) e.jobs.jobs) growth
