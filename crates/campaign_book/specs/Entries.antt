-- Defines the entries that a book stores.
use Rattle.std.specs.Prelude.{◌≡◌, List}
use Rattle.jvms_program.specs.declared.program.Class.{Class}
use Rattle.campaign_jobs.specs.declared.plan.Plan.{Plan}
use Rattle.campaign_book.specs.declared.row.Row.{Row}
use Rattle.campaign_book.specs.declared.row.Row.TheVariants as row
use Rattle.campaign_book.specs.declared.entry.BookEntry.{BookEntry}
use Rattle.campaign_book.specs.declared.entry.BookEntry.TheVariants as entry

-- Returns the entry as plain data.
abbrev pub row_of : BookEntry → Row
row_of (entry.Done report) = row.Done report.number report.result
row_of (entry.Skipped number because) = row.Skipped number because

-- If the entry is a report, it is of this program and this plan.
abbrev pub IsEntryOf : List Class → Plan → BookEntry → Type 0
IsEntryOf program plan (entry.Done report) = (report.program.now ≡ program) × (report.plan.now ≡ plan)
IsEntryOf program plan (entry.Skipped number because) = Unit {0}
