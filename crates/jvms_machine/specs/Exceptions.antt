-- Exceptions that the machine throws (JVMS 2.10). A test that throws changes nothing but the object that it creates and
-- the pending exception. Operands, local variables and pc stay.
use Rattle.std.specs.Prelude.{ℕ, ◌+◌, nat_le, Bool, if◌then◌else◌, List, [], ◌∷◌, length, codes}
use Rattle.jvms_program.specs.declared.thrown.Thrown.{Thrown}
use Rattle.jvms_program.specs.declared.thrown.Thrown.TheVariants as thrown
use Rattle.jvms_machine.specs.declared.machine.Limits.{Limits}
use Rattle.jvms_machine.specs.declared.action.Action.TheVariants as action
use Rattle.jvms_machine.specs.declared.action.Decision.TheVariants as decision
use Rattle.jvms_machine.specs.declared.action.Exception.{Exception}
use Rattle.jvms_machine.specs.declared.action.Exception.TheVariants as exception
use Rattle.jvms_machine.specs.Decisions.{TurnDecision}
use Rattle.jvms_machine.specs.State.{State, Frame, Thread}

-- Returns the name of an exception's class.
unfoldable pub thrown_class : Thrown → List ℕ
thrown_class thrown.ArithmeticException = codes "java/lang/ArithmeticException"
thrown_class thrown.ArrayStoreException = codes "java/lang/ArrayStoreException"
thrown_class thrown.ClassCastException = codes "java/lang/ClassCastException"
thrown_class thrown.IllegalMonitorStateException = codes "java/lang/IllegalMonitorStateException"
thrown_class thrown.IllegalThreadStateException = codes "java/lang/IllegalThreadStateException"
thrown_class thrown.NegativeArraySizeException = codes "java/lang/NegativeArraySizeException"
thrown_class thrown.NullPointerException = codes "java/lang/NullPointerException"
thrown_class thrown.ArrayIndexOutOfBoundsException = codes "java/lang/ArrayIndexOutOfBoundsException"
thrown_class thrown.NoClassDefFoundError = codes "java/lang/NoClassDefFoundError"
thrown_class thrown.IncompatibleClassChangeError = codes "java/lang/IncompatibleClassChangeError"
thrown_class thrown.UnsatisfiedLinkError = codes "java/lang/UnsatisfiedLinkError"
thrown_class thrown.ExceptionInInitializerError = codes "java/lang/ExceptionInInitializerError"
thrown_class thrown.AbstractMethodError = codes "java/lang/AbstractMethodError"
thrown_class thrown.InstantiationError = codes "java/lang/InstantiationError"
thrown_class thrown.NoSuchFieldError = codes "java/lang/NoSuchFieldError"
thrown_class thrown.NoSuchMethodError = codes "java/lang/NoSuchMethodError"
thrown_class thrown.OutOfMemoryError = codes "java/lang/OutOfMemoryError"
thrown_class thrown.StackOverflowError = codes "java/lang/StackOverflowError"

-- ---- The thrown object

-- Decides whether `count` more objects are within the limits.
abbrev pub has_room_for : ℕ → Limits → State → Bool
has_room_for count limits s = nat_le (length s.heap + count) limits.objects

-- Returns the object to throw. Reference 1 is thrown for too many objects, elements, threads or entries of a monitor,
-- and reference 2 for too many frames. Others are created, or are reference 1 if there is no room for one more object.
abbrev pub exception_of : Limits → State → Thrown → Exception
exception_of limits s thrown.OutOfMemoryError = exception.Existing 1
exception_of limits s thrown.StackOverflowError = exception.Existing 2
exception_of limits s class = if has_room_for 1 limits s then exception.New class else exception.Existing 1

-- Returns the reference of the thrown object.
abbrev pub exception_reference : State → Exception → ℕ
exception_reference s (exception.New class) = length s.heap + 1
exception_reference s (exception.Existing r) = r

-- ---- The turn that throws

-- Returns the decision to throw. With a frame the exception is pending after the turn, and without one the thread ends.
abbrev pub raise_decision : List Frame → Exception → TurnDecision
raise_decision [] e = decision.Applies (action.Fails e)
raise_decision (f ∷ below) e = decision.Applies (action.Raises e)

-- Returns the decision that the turn of this thread throws an exception of this class.
unfoldable pub throws : Limits → State → Thread → Thrown → TurnDecision
throws limits s thread class = raise_decision thread.frames (exception_of limits s class)
