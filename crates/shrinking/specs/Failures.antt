-- Ways in which a run fails.
use Rattle.std.specs.Prelude.{ℕ, ◌==◌, Bool, true, false, ◌&&◌, List, [], ◌∷◌, Option}
use Rattle.std.specs.List.{find}
use Rattle.explore_jobs.specs.campaign_jobs.Atomicities.{has_cycle}
use Rattle.explore_jobs.specs.declared.fate.Fate.{Fate}
use Rattle.jvms_machine.specs.declared.machine.Status.{Status}
use Rattle.jvms_machine.specs.declared.machine.Status.TheVariants as status
use Rattle.shrinking.specs.declared.failure.Failure.{Failure}
use Rattle.shrinking.specs.declared.failure.Failure.TheVariants as failure

-- Decides whether a run of this status fails in this way.
abbrev pub is_of_status : Failure → Status → Bool
is_of_status failure.Deadlocked status.Deadlocked = true
is_of_status failure.Stalled status.Stalled = true
is_of_status failure.Running status.Running = true
is_of_status way other = false

-- Decides whether a run fails in this way.
abbrev pub is_of : Failure → Fate → Bool
is_of failure.Cycle fate = has_cycle fate.result.atomicity
is_of failure.Uncaught fate = fate.has_uncaught
is_of way fate = is_of_status way fate.result.status

-- Returns the ways in which a run can fail, in their order.
abbrev pub ways : List Failure
ways = failure.Cycle ∷ failure.Uncaught ∷ failure.Deadlocked ∷ failure.Stalled ∷ failure.Running ∷ []

-- Returns the first way in which a run fails, if it fails.
abbrev pub failure_of : Fate → Option Failure
failure_of fate = find (λ way. is_of way fate) ways

-- Decides whether the run of a job of at most this number of turns fails in this way. Running counts only where all of
-- these turns were taken: a run also ends at a departure to a thread that isn't enabled.
abbrev pub fails_by : ℕ → Failure → Fate → Bool
fails_by most failure.Running fate = is_of failure.Running fate && (fate.result.turns == most)
fails_by most way fate = is_of way fate

-- Returns the first way in which the run of a job of at most this number of turns fails, if it fails.
abbrev pub failure_of_job : ℕ → Fate → Option Failure
failure_of_job most fate = find (λ way. fails_by most way fate) ways
