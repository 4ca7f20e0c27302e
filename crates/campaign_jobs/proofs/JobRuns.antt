-- The run of a job follows the chooser of its schedule.
use Rattle.std.proofs.Common.{◌≡◌, ℕ, List, refl, sym, ap}
use Rattle.std.specs.Prelude.{Result, Ok, Err}
use Rattle.jvms_file.specs.Results.{◌>>=◌}
use Rattle.jvms_program.specs.declared.program.Class.{Class}
use Rattle.jvms_machine.specs.Opening.{StartFault, start_of_entry}
use Rattle.jvms_machine.specs.Start.{Start}
use Rattle.program_runs.specs.machine.Started.{opened_machine}
use Rattle.program_runs.specs.machine.Machine.{Machine}
use Rattle.program_runs.specs.runs.Choices.{choices_from}
use Rattle.program_runs.specs.schedule.Choosers.{Chooser, chooser_of_schedule}
use Rattle.program_runs.specs.Shown.{Shown, view_of_program, view_of_choices}
use Rattle.campaign_jobs.specs.declared.choosing.Choosing.{Choosing}
use Rattle.campaign_jobs.specs.declared.choosing.Choosing.TheVariants as choosing
use Rattle.campaign_jobs.specs.declared.plan.Plan.{Plan}
use Rattle.campaign_jobs.specs.Choices.{choices_by}
use Rattle.campaign_jobs.specs.Plans.{schedule_by, schedule_of, stream_of}
use Rattle.campaign_jobs.specs.Reports.{job_shown}
use Rattle.campaign_jobs.proofs.SeededChoices.{are_seeded}

-- The choices of random words are those of the schedule with these words.
are_chosen : (way : Choosing) (most state stream : ℕ) (m : Machine)
    → choices_by way most state stream m ≡ choices_from most (chooser_of_schedule (schedule_by way state stream)) m
are_chosen choosing.Random most state stream m = are_seeded most state stream m
are_chosen (choosing.Priorities depth turns) most state stream m = refl

-- Returns the chooser of a job.
abbrev pub chooser_of : Plan → ℕ → Chooser
chooser_of plan number = chooser_of_schedule (schedule_of plan number)

pub are_scheduled : (plan : Plan) (number : ℕ) (m : Machine)
    → choices_by plan.choosing plan.most plan.seed (stream_of plan number) m ≡ choices_from plan.most (chooser_of plan number) m
are_scheduled plan number m = are_chosen plan.choosing plan.most plan.seed (stream_of plan number) m

same_for : (r : Result Start StartFault) (f g : Start → Shown) → ((start : Start) → f start ≡ g start) → (r >>= λ start. Ok (f start)) ≡ (r >>= λ start. Ok (g start))
same_for (Ok start) f g same = ap Ok (same start)
same_for (Err why) f g same = refl

pub same_shown : (program : List Class) (plan : Plan) (number : ℕ) → view_of_program plan.most (chooser_of plan number) plan.limits program plan.entry ≡ job_shown program plan number
unfolding view_of_program job_shown
same_shown program plan number =
    same_for (start_of_entry program plan.limits plan.entry) _ _
    (λ start. ap (view_of_choices (opened_machine program plan.limits start)) (sym (are_scheduled plan number (opened_machine program plan.limits start))))
