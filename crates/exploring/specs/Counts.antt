-- What is counted of the runs of a level.
use Rattle.std.specs.Prelude.{ℕ, Bool, true, false, List, length}
use Rattle.std.specs.List.{count_by}
use Rattle.explore_jobs.specs.campaign_jobs.Atomicities.{has_cycle}
use Rattle.explore_jobs.specs.declared.fate.Fate.{Fate}
use Rattle.exploring.specs.declared.level.Level.{Level}
use Rattle.jvms_machine.specs.declared.machine.Status.{Status}
use Rattle.jvms_machine.specs.declared.machine.Status.TheVariants as status

abbrev pub is_deadlocked : Status → Bool
is_deadlocked status.Deadlocked = true
is_deadlocked other = false

abbrev pub is_stalled : Status → Bool
is_stalled status.Stalled = true
is_stalled other = false

abbrev pub is_running : Status → Bool
is_running status.Running = true
is_running other = false

-- Returns what is counted of the runs of a level. A run that fails in several ways counts under each.
abbrev pub level_of : ℕ → List Fate → Level
level_of departures fates =
    record {
      departures = departures;
      runs = length fates;
      cycle = count_by (λ fate. has_cycle fate.result.atomicity) fates;
      uncaught = count_by (λ fate. fate.has_uncaught) fates;
      deadlocked = count_by (λ fate. is_deadlocked fate.result.status) fates;
      stalled = count_by (λ fate. is_stalled fate.result.status) fates;
      running = count_by (λ fate. is_running fate.result.status) fates;
    }
