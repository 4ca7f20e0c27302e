-- A job of a part of a campaign is a job of the campaign.
use Rattle.std.proofs.Common.{◌≡◌, ℕ, ◌+◌, ◌%◌, ◌^◌, List, ap, arith}
use Rattle.std.specs.Prelude.{Ok}
use Rattle.jvms_file.specs.Results.{◌>>=◌}
use Rattle.jvms_program.specs.declared.program.Class.{Class}
use Rattle.jvms_machine.specs.Opening.{start_of_entry}
use Rattle.program_runs.specs.machine.Started.{opened_machine}
use Rattle.program_runs.specs.Shown.{view_of_choices}
use Rattle.campaign_jobs.specs.declared.plan.Plan.{Plan}
use Rattle.campaign_jobs.specs.Choices.{choices_by}
use Rattle.campaign_jobs.specs.Plans.{part_of, stream_of}
use Rattle.campaign_jobs.specs.Reports.{job_shown}

same_stream : (plan : Plan) (begin jobs number : ℕ) → stream_of (part_of plan begin jobs) number ≡ stream_of plan (begin + number)
same_stream plan begin jobs number =
    let sum : plan.first + begin + number ≡ plan.first + (begin + number) = omega arith in
    ap (λ n. n % 2 ^ 64) sum

pub same_job : (program : List Class) (plan : Plan) (begin jobs number : ℕ) → job_shown program (part_of plan begin jobs) number ≡ job_shown program plan (begin + number)
unfolding job_shown
same_job program plan begin jobs number =
    ap (λ stream. start_of_entry program plan.limits plan.entry >>= λ start. Ok (
    let m = opened_machine program plan.limits start in view_of_choices m (choices_by plan.choosing plan.most plan.seed stream m)
    )) (same_stream plan begin jobs number)
