-- The status of a machine, by the outcome of each thread's next turn.
use Rattle.std.specs.Prelude.{Bool, true, false, if◌then◌else◌, List, map}
use Rattle.std.specs.List.{list_all, list_any, enumerate_from}
use Rattle.jvms_machine.specs.declared.machine.Outcome.{Outcome}
use Rattle.jvms_machine.specs.declared.machine.Outcome.TheVariants as outcome
use Rattle.jvms_machine.specs.declared.machine.Status.{Status}
use Rattle.jvms_machine.specs.declared.machine.Status.TheVariants as status
use Rattle.jvms_machine.specs.declared.machine.Limits.{Limits}
use Rattle.jvms_program.specs.declared.program.Class.{Class}
use Rattle.jvms_machine.specs.State.{State}
use Rattle.jvms_machine.specs.Start.{Start}
use Rattle.jvms_machine.specs.Turn.{turn}

abbrev pub is_enabled : Outcome → Bool
is_enabled outcome.Ran = true
is_enabled outcome.Raised = true
is_enabled (outcome.Ended last) = last
is_enabled (outcome.Blocked on) = false
is_enabled outcome.NoThread = false
is_enabled (outcome.Bad why) = false

abbrev pub is_bad : Outcome → Bool
is_bad (outcome.Bad why) = true
is_bad _ = false

-- Returns the outcome of each thread's next turn.
abbrev pub next_outcomes : List Class → Limits → Start → State → List Outcome
next_outcomes program limits start s =
    map (λ numbered. (turn program limits start s numbered.0).outcome) (enumerate_from 0 s.threads)

-- Returns the status. It is finished if all threads have ended, else running if one is enabled, else stalled if the
-- next turn of one is Bad, else deadlocked.
unfoldable pub status_of : List Class → Limits → Start → State → Status
status_of program limits start s =
    if list_all (λ thread. thread.ended) s.threads then status.Finished
    else (if list_any is_enabled (next_outcomes program limits start s) then status.Running
    else (if list_any is_bad (next_outcomes program limits start s) then status.Stalled
    else status.Deadlocked))
