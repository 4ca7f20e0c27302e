-- Defines a campaign as a list of events on its whole state (own). The state has the next number, the bound, what
-- each seat knows, and the book.
use Rattle.std.specs.Prelude.{ℕ, List, [], ◌∷◌, ◌++◌, All, Option, Some, None, fold}
use Rattle.jvms_program.specs.declared.program.Class.{Class}
use Rattle.campaign_jobs.specs.declared.plan.Plan.{Plan}
use Rattle.campaign_book.specs.declared.row.Row.{Row}
use Rattle.campaign_book.specs.declared.fault.StoreFault.{StoreFault}
use Rattle.campaign_book.specs.Books.{HasCycle, IsBook}
use Rattle.campaign_book.specs.Rows.{IsRight, refusal}
use Rattle.campaign_desk.specs.Events as desk
use Rattle.campaign_desk.specs.Facts.{IsDesk}

-- A seat takes a step at the desk, or the book gets an entry to store.
pub data Event : Type 0 where
  Step : desk.Event → Event
  Store : Row → Event

-- A seat lowers the bound only by a report with a cycle, and a result that is stored is that of its job.
abbrev pub IsEvent : List Class → Plan → Event → Type 0
IsEvent program plan (Step (desk.Lower w number)) = HasCycle program plan number
IsEvent program plan (Step e) = Unit {0}
IsEvent program plan (Store row) = IsRight program plan row

pub record Whole : Type 0 where
  pub desk : desk.DeskState
  pub rows : List Row

-- Appends a row if there is no reason against it.
abbrev pub rows_after : Option StoreFault → List Row → Row → List Row
rows_after None rows row = rows ++ row ∷ []
rows_after (Some fault) rows row = rows

abbrev pub after : Plan → Whole → Event → Whole
after plan s (Step e) = record s { desk = desk.after s.desk e }
after plan s (Store row) = record s { rows = rows_after (refusal plan s.rows row) s.rows row }

abbrev pub after_all : Plan → Whole → List Event → Whole
after_all plan s events = fold (after plan) s events

abbrev pub first_state : Plan → ℕ → Whole
first_state plan workers = record { desk = desk.first_state plan.jobs workers; rows = [] }

-- The desk and the book are consistent with the plan.
abbrev pub IsState : List Class → Plan → ℕ → Whole → Type 0
IsState program plan workers s =
    IsDesk plan.jobs workers s.desk.next s.desk.bound s.desk.seats × IsBook program plan s.rows

-- Each list of events leads to such a state.
abbrev pub EventsKeep : Type 0
EventsKeep =
    (program : List Class) (plan : Plan) (workers : ℕ) (events : List Event)
    → All (IsEvent program plan) events → IsState program plan workers (after_all plan (first_state plan workers) events)
