-- Decisions on a pending exception (JVMS 2.10), which a handler takes or which pops a frame, and on `athrow` (JVMS
-- 6.5).
use Rattle.std.specs.Prelude.{ℕ, ◌<◌, ◌==◌, ◌&&◌, Bool, true, not, nat_le, nat_lt, if◌then◌else◌, List, [], ◌∷◌, Option, Some, None, codes}
use Rattle.std.specs.List.{find}
use Rattle.jvms_program.specs.declared.program.Catch.{Catch}
use Rattle.jvms_program.specs.declared.program.Catch.TheVariants as catch
use Rattle.jvms_program.specs.declared.program.Class.{Class}
use Rattle.jvms_program.specs.declared.program.ExceptionHandler.{ExceptionHandler}
use Rattle.jvms_program.specs.declared.thrown.Thrown.TheVariants as thrown
use Rattle.jvms_machine.specs.declared.machine.BadCause.TheVariants as cause
use Rattle.jvms_machine.specs.declared.machine.Limits.{Limits}
use Rattle.jvms_machine.specs.declared.state.StackFrame.TheVariants as stack_frame
use Rattle.jvms_machine.specs.declared.value.Value.{Value}
use Rattle.jvms_machine.specs.declared.action.Action.TheVariants as action
use Rattle.jvms_machine.specs.declared.action.Decision.TheVariants as decision
use Rattle.jvms_machine.specs.declared.action.Exception.{Exception}
use Rattle.jvms_machine.specs.declared.action.Exception.TheVariants as exception
use Rattle.jvms_machine.specs.Monitors.{fails_to_unlock, is_empty, frame_unlocking}
use Rattle.jvms_program.specs.Resolution.{fits}
use Rattle.jvms_machine.specs.Decisions.{TurnDecision, bad, never_seen}
use Rattle.jvms_machine.specs.State.{State, Thread, Frame, MethodFrame, Object, object_at, class_of}
use Rattle.jvms_machine.specs.Exceptions.{exception_of}
use Rattle.jvms_machine.specs.Arrays.{if_deep, with_object_of}

-- ---- Handlers

abbrev pub covers : ℕ → ExceptionHandler → Bool
covers place h = nat_le h.start place && nat_lt place h.end

-- Decides whether a handler takes objects of a class. A handler whose class doesn't exist takes none (own).
abbrev pub takes_class : List Class → List ℕ → Catch → Bool
takes_class program class catch.All = true
takes_class program class (catch.Class name) = fits program class name

abbrev pub handles : List Class → List ℕ → ℕ → ExceptionHandler → Bool
handles program class place h = covers place h && takes_class program class h.catch

-- Returns the first handler in the table's order that covers the pc and takes the object.
abbrev pub handler_of : List Class → List ℕ → MethodFrame → Option ExceptionHandler
handler_of program class f = find (handles program class f.activation.place) f.body.handlers

-- ---- The top frame

-- Decides that a call is popped, and leaves its monitor.
abbrev pub popped_decision : Limits → State → ℕ → MethodFrame → List Frame → TurnDecision
popped_decision limits s t f below =
    frame_unlocking s t f.monitor (fails_to_unlock limits s f.method below)
    (λ unlock. decision.Applies (action.Unwinds f.method (is_empty below) unlock))

-- Decides the turn with this handler. It needs room for the object. Without a handler the call is popped.
abbrev pub handler_decision : Limits → State → ℕ → MethodFrame → List Frame → ℕ → Option ExceptionHandler → TurnDecision
handler_decision limits s t f below r None = popped_decision limits s t f below
handler_decision limits s t f below r (Some h) = if f.body.max_stack == 0 then bad cause.Depth else decision.Applies (action.Catches r h.target)

abbrev pub is_error : List Class → Object → Bool
is_error program o = fits program (class_of o) (codes "java/lang/Error")

-- Returns the exception that is pending after a class's failed initialisation. An exception of its `<clinit>` that is
-- no Error is replaced.
abbrev pub failed_with : List Class → Limits → State → Bool → ℕ → Object → Exception
failed_with program limits s called r o =
    if called && not (is_error program o) then exception_of limits s thrown.ExceptionInInitializerError else exception.Existing r

abbrev pub top_decision : List Class → Limits → State → ℕ → List Frame → ℕ → Object → TurnDecision
top_decision program limits s t [] r o = never_seen
top_decision program limits s t (stack_frame.Call f ∷ below) r o =
    handler_decision limits s t f below r (handler_of program (class_of o) f)
top_decision program limits s t (stack_frame.Initialisation class called ∷ below) r o =
    decision.Applies (action.FailsInitialisation class (failed_with program limits s called r o) (is_empty below))

abbrev pub object_decision : List Class → Limits → State → ℕ → List Frame → ℕ → Option Object → TurnDecision
object_decision program limits s t frames r None = never_seen
object_decision program limits s t frames r (Some o) = top_decision program limits s t frames r o

-- Decides the turn of a thread with a pending exception.
unfoldable pub unwinding_decision : List Class → Limits → State → ℕ → Thread → ℕ → TurnDecision
unwinding_decision program limits s t thread r = object_decision program limits s t thread.frames r (object_at s.heap r)

-- The top frame can be unwound: it is an initialisation, or a call with room for the object of a handler.
abbrev pub CanBeUnwound : List Frame → Type 0
CanBeUnwound [] = ⊥
CanBeUnwound (stack_frame.Call f ∷ below) = 0 < f.body.max_stack
CanBeUnwound (stack_frame.Initialisation class called ∷ below) = Unit {0}

-- ---- athrow

abbrev pub throwable_decision : List Class → ℕ → Object → TurnDecision
throwable_decision program r o =
    if fits program (class_of o) (codes "java/lang/Throwable") then decision.Applies (action.Throws r) else bad cause.Kind

abbrev pub throw_top : List Class → Limits → State → Thread → List Value → TurnDecision
throw_top program limits s thread [] = bad cause.Depth
throw_top program limits s thread (v ∷ below) = with_object_of limits s thread v (throwable_decision program)

-- Decides JVMS 6.5 `athrow`. It tests the depth and null, then that the object is a Throwable.
unfoldable pub throw_decision : List Class → Limits → State → Thread → MethodFrame → TurnDecision
throw_decision program limits s thread frame = if_deep frame 1 0 (throw_top program limits s thread frame.activation.operands)
