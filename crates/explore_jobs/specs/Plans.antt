-- Which plans fit a program, and what the run of a job shows.
use Rattle.std.specs.Prelude.{Bool, List, Result, is_ok}
use Rattle.departures.specs.declared.departure.Departure.{Departure}
use Rattle.explore_jobs.specs.declared.plan.Plan.{Plan}
use Rattle.jvms_machine.specs.Opening.{StartFault, start_of_entry}
use Rattle.jvms_program.specs.declared.program.Class.{Class}
use Rattle.campaign_jobs.specs.program_runs.Shown.{Shown, view_of_program}
use Rattle.campaign_jobs.specs.schedule.Choosers.{chooser_of_schedule}
use Rattle.campaign_jobs.specs.schedule.Schedules as schedules

-- Decides whether a machine of the program can be made with the plan's limits and entry.
abbrev pub fits : List Class → Plan → Bool
fits program plan = is_ok (start_of_entry program plan.limits plan.entry)

-- Returns what the run of a job shows: the run of the schedule with these departures, or why no machine is made for it.
abbrev pub job_shown : List Class → Plan → List Departure → Result Shown StartFault
job_shown program plan departures =
    view_of_program plan.most (chooser_of_schedule (schedules.Staying departures)) plan.limits program plan.entry
