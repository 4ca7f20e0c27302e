-- Objects of classes, strings and class objects (JVMS 6.5 `new`, `checkcast`, `instanceof`, `ldc`).
use Rattle.std.specs.Prelude.{ℕ, Bool, true, false, not, if◌then◌else◌, List, ◌∷◌, Option, Some, None, pos}
use Rattle.jvms_machine.specs.declared.value.Value.{Value}
use Rattle.jvms_machine.specs.declared.value.Value.TheVariants as value
use Rattle.jvms_machine.specs.declared.machine.BadCause.TheVariants as cause
use Rattle.jvms_machine.specs.declared.machine.Limits.{Limits}
use Rattle.jvms_file.specs.declared.insn.ClassUse.{ClassUse}
use Rattle.jvms_file.specs.declared.insn.ClassUse.TheVariants as class_use
use Rattle.jvms_program.specs.declared.program.Class.{Class}
use Rattle.jvms_program.specs.declared.program.ClassKind.{ClassKind}
use Rattle.jvms_program.specs.declared.program.ClassKind.TheVariants as class_kind
use Rattle.jvms_program.specs.declared.program.Loadable.{Loadable}
use Rattle.jvms_program.specs.declared.program.Loadable.TheVariants as loadable
use Rattle.jvms_program.specs.declared.thrown.Thrown.TheVariants as thrown
use Rattle.jvms_machine.specs.declared.action.FrameAction.TheVariants as frame_action
use Rattle.jvms_machine.specs.declared.action.NewObject.{NewObject}
use Rattle.jvms_machine.specs.declared.action.NewObject.TheVariants as new_object
use Rattle.jvms_machine.specs.declared.action.Effect.TheVariants as effect
use Rattle.jvms_program.specs.Program.{class_named, class_number}
use Rattle.jvms_program.specs.Resolution.{class_exists, fits}
use Rattle.jvms_machine.specs.Decisions.{TurnDecision, bad, never_seen}
use Rattle.jvms_machine.specs.State.{State, Thread, MethodFrame, Object, object_at, class_of, text_reference, class_reference}
use Rattle.jvms_machine.specs.Exceptions.{throws, has_room_for}
use Rattle.jvms_machine.specs.Initialisation.{class_use_decision}
use Rattle.jvms_machine.specs.Fields.{reaches, next_action}
use Rattle.jvms_machine.specs.Arrays.{if_deep, creation_decision, new_class_array_decision}

-- ---- new

abbrev pub is_instantiable : ClassKind → Bool
is_instantiable class_kind.Neither = true
is_instantiable class_kind.Abstract = false
is_instantiable class_kind.Interface = false

-- Decides the creation of an object, if there is room for one.
abbrev pub creation_if_room : Limits → State → Thread → ℕ → NewObject (List ℕ) → TurnDecision
creation_if_room limits s thread takes what =
    if has_room_for 1 limits s then creation_decision s takes what else throws limits s thread thrown.OutOfMemoryError

abbrev pub instance_of_number : List Class → Limits → State → ℕ → Thread → Option ℕ → TurnDecision
instance_of_number program limits s t thread None = never_seen
instance_of_number program limits s t thread (Some class) =
    class_use_decision program limits s t thread class (creation_if_room limits s thread 0 (new_object.Instance class))

-- Decides JVMS 6.5 `new`. It tests that the class exists, that it is neither abstract nor an interface, its
-- initialisation, and the room, in this order.
abbrev pub new_instance_decision : List Class → Limits → State → ℕ → Thread → List ℕ → Option Class → TurnDecision
new_instance_decision program limits s t thread name None = throws limits s thread thrown.NoClassDefFoundError
new_instance_decision program limits s t thread name (Some c) =
    if not (is_instantiable c.kind) then throws limits s thread thrown.InstantiationError
    else instance_of_number program limits s t thread (class_number program name)

-- ---- checkcast and instanceof

-- Tests the topmost operand against a class. Null is tested before the class is resolved.
abbrev pub with_class_of : List Class → Limits → State → Thread → List ℕ → List Value → TurnDecision → (Bool → TurnDecision) → TurnDecision
with_class_of program limits s thread name (value.Null ∷ below) null on_result = null
with_class_of program limits s thread name (value.Reference r ∷ below) null on_result = at (object_at s.heap r)
  where
    at : Option Object → TurnDecision
    at None = never_seen
    at (Some o) =
        if class_exists program name then on_result (fits program (class_of o) name) else throws limits s thread thrown.NoClassDefFoundError
with_class_of program limits s thread name _ null on_result = bad cause.Kind

abbrev pub cast : Limits → State → Thread → MethodFrame → Bool → TurnDecision
cast limits s thread frame true = reaches effect.Nothing (next_action 0 frame.activation)
cast limits s thread frame false = throws limits s thread thrown.ClassCastException

abbrev pub instance_test_result : Bool → TurnDecision
instance_test_result true = reaches effect.Nothing (frame_action.Push 1 (value.Int (pos 1)))
instance_test_result false = reaches effect.Nothing (frame_action.Push 1 (value.Int (pos 0)))

-- ---- The instructions that name a class

unfoldable pub class_decision : List Class → Limits → State → ℕ → Thread → MethodFrame → ClassUse → List ℕ → TurnDecision
class_decision program limits s t thread frame class_use.New name =
    if_deep frame 0 1 (new_instance_decision program limits s t thread name (class_named program name))
class_decision program limits s t thread frame class_use.NewArray name =
    new_class_array_decision program limits s thread frame name
class_decision program limits s t thread frame class_use.CheckCast name =
    if_deep frame 1 1
    (with_class_of program limits s thread name frame.activation.operands (reaches effect.Nothing (next_action 0 frame.activation)) (cast limits s thread frame))
class_decision program limits s t thread frame class_use.InstanceOf name =
    if_deep frame 1 1 (with_class_of program limits s thread name frame.activation.operands (instance_test_result false) instance_test_result)

-- ---- ldc of a string or a class

-- Decides to push the existing object, or else a new one. Equal strings share one object, and a class has one.
abbrev pub existing_or_new : Limits → State → Thread → Option ℕ → NewObject (List ℕ) → TurnDecision
existing_or_new limits s thread (Some r) what = reaches effect.Nothing (frame_action.Push 0 (value.Reference r))
existing_or_new limits s thread None what = creation_if_room limits s thread 0 what

unfoldable pub loadable_decision : List Class → Limits → State → Thread → MethodFrame → Loadable → TurnDecision
loadable_decision program limits s thread frame (loadable.String units) =
    if_deep frame 0 1 (existing_or_new limits s thread (text_reference s.heap units) (new_object.Text units))
loadable_decision program limits s thread frame (loadable.Class name) =
    if_deep frame 0 1 (
    if class_exists program name
    then existing_or_new limits s thread (class_reference s.heap name) (new_object.ClassObject name)
    else throws limits s thread thrown.NoClassDefFoundError)
loadable_decision program limits s thread frame _ = never_seen
