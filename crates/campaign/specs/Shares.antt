-- Defines what shares count, what a shared book answers, and the placeholder for a campaign before its name is chosen.
use Rattle.std.specs.Prelude.{ℕ, ◌+◌, List, [], cond, false, is_ok, Result}
use Rattle.jvms_program.specs.declared.program.Class.{Class}
use Rattle.jvms_machine.specs.declared.machine.Entry.TheVariants as entry
use Rattle.campaign_jobs.specs.declared.choosing.Choosing.TheVariants as choosing
use Rattle.campaign_jobs.specs.declared.plan.Plan.{Plan}
use Rattle.campaign_book.specs.declared.fault.StoreFault.{StoreFault}
use Rattle.campaign_book.specs.declared.row.Row.{Row}
use Rattle.campaign_book.specs.Books.{IsBook}
use Rattle.campaign_book.specs.Rows.{IsStoring}

-- Returns the count after an answer. A stored entry adds 1, and any other answer adds nothing.
abbrev pub after_answer : ℕ → Result (Unit {0}) StoreFault → ℕ
after_answer n answer = n + cond (is_ok answer) 1 0

-- A book of this program and this plan gave this answer for this row. Other workers may have stored rows before.
abbrev pub IsAnswer : List Class → Plan → Row → Result (Unit {0}) StoreFault → Type 0
IsAnswer program plan row answer =
    (old : List Row) × (new : List Row)
    × IsBook program plan old × IsBook program plan new × IsStoring plan old row answer new

-- Return the program and the plan of `Brand`. A call that names a campaign by it chooses its own.
abbrev pub no_program : List Class
no_program = []

abbrev pub no_plan : Plan
no_plan =
    record {
      entry = entry.Main [];
      limits = record { objects = 0; elements = 0; threads = 0; frames = 0 };
      jobs = 0;
      first = 0;
      seed = 0;
      choosing = choosing.Random;
      most = 0;
      spec = [];
      stop = false;
    }
