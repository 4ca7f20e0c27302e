-- Outcomes of turns, and the status of a machine, as the debugger writes them (own).
use Rattle.std.specs.Prelude.{ℕ, List, ◌++◌, codes}
use Rattle.std.specs.Fmt.{decimal}
use Rattle.jvms_machine.specs.declared.machine.BadCause.{BadCause}
use Rattle.jvms_machine.specs.declared.machine.BadCause.TheVariants as bad_cause
use Rattle.jvms_machine.specs.declared.machine.BlockedOn.{BlockedOn}
use Rattle.jvms_machine.specs.declared.machine.BlockedOn.TheVariants as blocked_on
use Rattle.jvms_machine.specs.declared.machine.Outcome.{Outcome}
use Rattle.jvms_machine.specs.declared.machine.Outcome.TheVariants as outcome
use Rattle.jvms_machine.specs.declared.machine.Status.{Status}
use Rattle.jvms_machine.specs.declared.machine.Status.TheVariants as status
use Rattle.jvms_program.specs.declared.program.Class.{Class}
use Rattle.machine_text.specs.Places.{class_name_text}

abbrev pub status_text : Status → List ℕ
status_text status.Finished = codes "Finished"
status_text status.Running = codes "Running"
status_text status.Stalled = codes "Stalled"
status_text status.Deadlocked = codes "Deadlocked"

abbrev pub cause_text : BadCause → List ℕ
cause_text bad_cause.FellOff = codes "FellOff"
cause_text bad_cause.OutOfProfile = codes "OutOfProfile"
cause_text bad_cause.Depth = codes "Depth"
cause_text bad_cause.Kind = codes "Kind"
cause_text bad_cause.Local = codes "Local"

-- Returns the text `monitor R by U`, `init C by U`, `join U` or `wait R` of what a blocked thread waits for.
abbrev pub blocked_text : List Class → BlockedOn → List ℕ
blocked_text program (blocked_on.Monitor reference owner) = codes "monitor " ++ decimal reference ++ codes " by " ++ decimal owner
blocked_text program (blocked_on.Initialisation class owner) = codes "init " ++ class_name_text program class ++ codes " by " ++ decimal owner
blocked_text program (blocked_on.Join thread) = codes "join " ++ decimal thread
blocked_text program (blocked_on.Wait reference) = codes "wait " ++ decimal reference

abbrev pub outcome_text : List Class → Outcome → List ℕ
outcome_text program outcome.Ran = codes "Ran"
outcome_text program outcome.Raised = codes "Raised"
outcome_text program (outcome.Ended last) = codes "Ended"
outcome_text program outcome.NoThread = codes "NoThread"
outcome_text program (outcome.Blocked on) = codes "Blocked " ++ blocked_text program on
outcome_text program (outcome.Bad cause) = codes "Bad " ++ cause_text cause
