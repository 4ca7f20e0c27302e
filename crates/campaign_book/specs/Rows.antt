-- Defines which rows a book stores, and why it refuses others.
use Rattle.std.specs.Prelude.{◌≡◌, ℕ, ◌+◌, ◌==◌, nat_lt, List, [], ◌∷◌, ◌++◌, Bool, true, false, not, ◌&&◌, cond, Option, Some, None, is_some, if◌then◌else◌, Result, Ok, Err}
use Rattle.std.specs.List.{find}
use Rattle.jvms_program.specs.declared.program.Class.{Class}
use Rattle.campaign_jobs.specs.declared.plan.Plan.{Plan}
use Rattle.campaign_jobs.specs.Atomicities.{has_cycle}
use Rattle.campaign_jobs.specs.Reports.{IsResultOf}
use Rattle.campaign_book.specs.declared.row.Row.{Row}
use Rattle.campaign_book.specs.declared.row.Row.TheVariants.{Done, Skipped}
use Rattle.campaign_book.specs.declared.row.Totals.{Totals}
use Rattle.campaign_book.specs.declared.fault.StoreFault.{StoreFault}
use Rattle.campaign_book.specs.declared.fault.StoreFault.TheVariants.{Range, Repeated, NotSkippable, Memory}

-- Returns the number of a row's job.
abbrev pub number_of : Row → ℕ
number_of (Done number result) = number
number_of (Skipped number because) = number

-- Decides whether the row is a result with a cycle.
abbrev pub is_cycle : Row → Bool
is_cycle (Done number result) = has_cycle result.atomicity
is_cycle (Skipped number because) = false

-- Decides whether the row is a result.
abbrev pub is_done : Row → Bool
is_done (Done number result) = true
is_done (Skipped number because) = false

-- Decides whether the row has this number.
abbrev pub is_at : ℕ → Row → Bool
is_at number row = number_of row == number

-- Returns the first row with a number, if there is one.
abbrev pub row_at : ℕ → List Row → Option Row
row_at number rows = find (is_at number) rows

-- Decides whether one of the rows has this number.
abbrev pub has_number : ℕ → List Row → Bool
has_number number rows = is_some (row_at number rows)

-- Decides whether there is a row, and it is a result with a cycle.
abbrev pub is_some_cycle : Option Row → Bool
is_some_cycle None = false
is_some_cycle (Some row) = is_cycle row

-- Decides whether a row has this number, and the first such row is a result with a cycle.
abbrev pub has_cycle_at : ℕ → List Row → Bool
has_cycle_at number rows = is_some_cycle (row_at number rows)

-- Returns the totals with one more row counted.
abbrev pub with_row : Totals → Row → Totals
with_row t row =
    record {
      rows = t.rows + 1;
      done = t.done + cond (is_done row) 1 0;
      cycles = t.cycles + cond (is_cycle row) 1 0;
    }

-- Decides whether the row is a result, or may skip its number. It may if the plan stops, and it names a smaller number
-- whose row is a result with a cycle.
abbrev pub is_skippable : Plan → List Row → Row → Bool
is_skippable plan rows (Done number result) = true
is_skippable plan rows (Skipped number because) = plan.stop && (nat_lt because number && has_cycle_at because rows)

-- Returns the first reason against a row, tested in this order, if there is one.
abbrev pub refusal : Plan → List Row → Row → Option StoreFault
refusal plan rows row =
    if not (nat_lt (number_of row) plan.jobs) then Some Range
    else if has_number (number_of row) rows then Some Repeated
    else if not (is_skippable plan rows row) then Some NotSkippable
    else None

-- Each of the rows could be stored after the past rows and after those before it.
abbrev pub Replays : Plan → List Row → List Row → Type 0
Replays plan past [] = Unit {0}
Replays plan past (row ∷ rows) = (refusal plan past row ≡ None) × Replays plan (past ++ row ∷ []) rows

-- If the row is a result, it is that of the job of its number.
abbrev pub IsRight : List Class → Plan → Row → Type 0
IsRight program plan (Done number result) = IsResultOf program plan number result
IsRight program plan (Skipped number because) = Unit {0}

-- A row is refused for the first reason against it, else appended, or refused for lack of memory. A refusal changes
-- nothing.
abbrev pub IsStoring : Plan → List Row → Row → Result (Unit {0}) StoreFault → List Row → Type 0
IsStoring plan old row (Ok done) new = (refusal plan old row ≡ None) × (new ≡ old ++ row ∷ [])
IsStoring plan old row (Err Memory) new = (refusal plan old row ≡ None) × (new ≡ old)
IsStoring plan old row (Err fault) new = (refusal plan old row ≡ Some fault) × (new ≡ old)
