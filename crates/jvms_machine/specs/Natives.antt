-- The native methods of built-in classes: prints to `System.out`, starts and joins of threads, waits and notifications.
-- Each completes in the turn of its call.
use Rattle.std.specs.Prelude.{ℕ, Bool, true, ◌&&◌, if◌then◌else◌, Option, Some, None, codes}
use Rattle.jvms_machine.specs.declared.value.Value.{Value}
use Rattle.jvms_machine.specs.declared.value.Value.TheVariants as value
use Rattle.jvms_machine.specs.declared.machine.BadCause.TheVariants as cause
use Rattle.jvms_machine.specs.declared.machine.Limits.{Limits}
use Rattle.jvms_program.specs.declared.program.Class.{Class}
use Rattle.jvms_program.specs.declared.program.Method.{Method}
use Rattle.jvms_program.specs.declared.thrown.Thrown.TheVariants as thrown
use Rattle.jvms_machine.specs.declared.action.Printed.{Printed}
use Rattle.jvms_machine.specs.declared.action.Printed.TheVariants as printed
use Rattle.jvms_machine.specs.declared.action.Effect.TheVariants as effect
use Rattle.jvms_file.specs.Names.{same_text}
use Rattle.jvms_machine.specs.Decisions.{TurnDecision, bad, never_seen}
use Rattle.jvms_machine.specs.State.{State, Thread, Activation, Object, text, object_at}
use Rattle.jvms_machine.specs.Exceptions.{throws}
use Rattle.jvms_machine.specs.Fields.{reaches, next_action}
use Rattle.jvms_machine.specs.Places.{whole_top}
use Rattle.jvms_machine.specs.Threads.{thread_native_decision}
use Rattle.jvms_machine.specs.Waiting.{object_native_decision}

-- Returns the decision to print. It takes all operands of the call: the receiver, and the printed value, except for
-- `println()V`.
abbrev pub prints : Activation → ℕ → Printed → Bool → TurnDecision
prints a takes what ends_line = reaches (effect.Prints what ends_line) (next_action takes a)

-- Decides the print of an object. Strings print, and any other object is of a wrong kind.
abbrev pub object_printed : Activation → ℕ → Bool → ℕ → Option Object → TurnDecision
object_printed a takes ends_line r (Some (text units)) = prints a takes (printed.Text r) ends_line
object_printed a takes ends_line r _ = bad cause.Kind

-- Decides the print of the topmost value.
abbrev pub value_printed : State → Activation → ℕ → Bool → Option Value → TurnDecision
value_printed s a takes ends_line (Some (value.Int n)) = prints a takes (printed.Int n) ends_line
value_printed s a takes ends_line (Some (value.Long n)) = prints a takes (printed.Long n) ends_line
value_printed s a takes ends_line (Some value.Null) = prints a takes printed.Null ends_line
value_printed s a takes ends_line (Some (value.Reference r)) = object_printed a takes ends_line r (object_at s.heap r)
value_printed s a takes ends_line _ = never_seen

-- Decides a call of `print` or `println` of PrintStream.
abbrev pub print_decision : State → Activation → ℕ → Method → TurnDecision
print_decision s a takes m =
    if same_text m.name (codes "println") && same_text m.descriptor (codes "()V") then prints a takes printed.Nothing true
    else value_printed s a takes (same_text m.name (codes "println")) (whole_top a.operands)

-- Decides a call of a native method: of PrintStream, Thread or Object. One of any other class throws
-- UnsatisfiedLinkError.
abbrev pub native_of_class : Limits → State → ℕ → Thread → Activation → ℕ → Method → Option Class → TurnDecision
native_of_class limits s t thread a takes m None = never_seen
native_of_class limits s t thread a takes m (Some c) =
    if same_text c.name (codes "java/io/PrintStream") then print_decision s a takes m
    else (if same_text c.name (codes "java/lang/Thread") then thread_native_decision limits s thread a m a.operands
    else (if same_text c.name (codes "java/lang/Object") then object_native_decision limits s t thread a m a.operands
    else throws limits s thread thrown.UnsatisfiedLinkError))
