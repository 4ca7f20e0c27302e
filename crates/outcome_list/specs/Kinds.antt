-- The kind of an outcome, without the thread, the reference and the class that it names.
use Rattle.std.specs.Prelude.{true, false}
use Rattle.jvms_machine.specs.declared.machine.Outcome.{Outcome}
use Rattle.jvms_machine.specs.declared.machine.Outcome.TheVariants as outcome
use Rattle.jvms_machine.specs.declared.machine.BlockedOn.TheVariants as blocked_on
use Rattle.jvms_machine.specs.declared.machine.BadCause.TheVariants as bad_cause
use Rattle.outcome_list.specs.declared.kind.Kind.{Kind}
use Rattle.outcome_list.specs.declared.kind.Kind.TheVariants as kind

abbrev pub kind_of : Outcome → Kind
kind_of outcome.Ran = kind.Ran
kind_of outcome.Raised = kind.Raised
kind_of (outcome.Ended true) = kind.Last
kind_of (outcome.Ended false) = kind.Ended
kind_of (outcome.Blocked (blocked_on.Monitor reference owner)) = kind.Monitor
kind_of (outcome.Blocked (blocked_on.Initialisation class owner)) = kind.Initialisation
kind_of (outcome.Blocked (blocked_on.Join thread)) = kind.Join
kind_of (outcome.Blocked (blocked_on.Wait reference)) = kind.Wait
kind_of outcome.NoThread = kind.NoThread
kind_of (outcome.Bad bad_cause.FellOff) = kind.FellOff
kind_of (outcome.Bad bad_cause.OutOfProfile) = kind.OutOfProfile
kind_of (outcome.Bad bad_cause.Depth) = kind.Depth
kind_of (outcome.Bad bad_cause.Kind) = kind.WrongKind
kind_of (outcome.Bad bad_cause.Local) = kind.Local
