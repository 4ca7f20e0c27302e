-- Defines which plans fit a program, and which schedules their jobs have.
use Rattle.std.specs.Prelude.{ℕ, ◌+◌, ◌%◌, ◌^◌, Bool, List, is_ok}
use Rattle.jvms_program.specs.declared.program.Class.{Class}
use Rattle.jvms_machine.specs.Opening.{start_of_entry}
use Rattle.program_runs.specs.schedule.Schedules.{Schedule, Ranked, Seeded}
use Rattle.campaign_jobs.specs.declared.choosing.Choosing.{Choosing}
use Rattle.campaign_jobs.specs.declared.choosing.Choosing.TheVariants as choosing
use Rattle.campaign_jobs.specs.declared.plan.Plan.{Plan}

-- Decides whether a machine of the program can be made with the plan's limits and entry.
abbrev pub fits : List Class → Plan → Bool
fits program plan = is_ok (start_of_entry program plan.limits plan.entry)

-- Returns the stream of a job's random words. Streams are counted from the first job's, modulo their number.
abbrev pub stream_of : Plan → ℕ → ℕ
stream_of plan number = (plan.first + number) % 2 ^ 64

-- Returns the schedule of random words with this state and this stream: `seed:S:K`, or `pct:S:K:D:N` by priorities.
abbrev pub schedule_by : Choosing → ℕ → ℕ → Schedule
schedule_by choosing.Random state stream = Seeded state stream
schedule_by (choosing.Priorities depth turns) state stream = Ranked state stream depth turns

-- Returns the schedule of a job. Its random words have the plan's seed as their state, and the job's stream.
abbrev pub schedule_of : Plan → ℕ → Schedule
schedule_of plan number = schedule_by plan.choosing plan.seed (stream_of plan number)

-- Returns the plan of a part of a campaign, which has `jobs` jobs. Its first job has the number `begin` in the
-- campaign.
abbrev pub part_of : Plan → ℕ → ℕ → Plan
part_of plan begin jobs = record plan { first = plan.first + begin; jobs = jobs }
