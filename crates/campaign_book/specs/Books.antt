-- Defines what contracts see of a book, and the invariant of every book.
use Rattle.std.specs.Prelude.{◌≡◌, ℕ, ◌<◌, List, [], All, true, count_by, length}
use Rattle.jvms_program.specs.declared.program.Class.{Class}
use Rattle.campaign_jobs.specs.declared.plan.Plan.{Plan}
use Rattle.campaign_jobs.specs.declared.result.JobResult.{JobResult}
use Rattle.campaign_jobs.specs.Atomicities.{has_cycle}
use Rattle.campaign_jobs.specs.Reports.{IsResultOf}
use Rattle.campaign_book.specs.declared.row.Row.{Row}
use Rattle.campaign_book.specs.declared.row.Row.TheVariants.{Done, Skipped}
use Rattle.campaign_book.specs.declared.row.Totals.{Totals}
use Rattle.campaign_book.specs.Rows.{has_cycle_at, is_cycle, is_done, IsRight, Replays}

-- A book has a program, a plan, and rows in the order of storing.
pub record BookView : Type 0 where
  pub program : List Class
  pub plan : Plan
  pub rows : List Row

-- Returns the number of rows, of results among them, and of results with a cycle.
abbrev pub totals_of : List Row → Totals
totals_of rows = record { rows = length rows; done = count_by is_done rows; cycles = count_by is_cycle rows }

-- The job of this number has a result with a cycle.
abbrev pub HasCycle : List Class → Plan → ℕ → Type 0
HasCycle program plan number =
    (result : JobResult) × IsResultOf program plan number result × (has_cycle result.atomicity ≡ true)

-- Each result is that of its job, and each row could be stored after those before it.
pub record IsBook (program : List Class) (plan : Plan) (rows : List Row) : Type 0 where
  pub right : All (IsRight program plan) rows
  pub replays : Replays plan [] rows

-- If a row skips its number, the plan stops, and the rows have a result with a cycle of a smaller number.
abbrev pub IsSkip : Plan → List Row → Row → Type 0
IsSkip plan rows (Done number result) = Unit {0}
IsSkip plan rows (Skipped number because) =
    (plan.stop ≡ true) × (because < number) × (has_cycle_at because rows ≡ true)
