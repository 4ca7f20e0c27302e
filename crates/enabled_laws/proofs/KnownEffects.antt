-- Properties of the effect in a turn's decision. A value that is written to a field has the size of its type, and the
-- monitor of an object whose waiters are notified is held.
use Rattle.jvms_file.specs.Descriptors.{field_type, units_of}
use Rattle.jvms_file.specs.declared.descriptor.FieldType.{FieldType}
use Rattle.jvms_machine.proofs.PlaceLaws.{type_units}
use Rattle.jvms_machine.specs.Decisions.{TurnAction, TurnDecision}
use Rattle.jvms_machine.specs.Exceptions.{exception_of, raise_decision, throws}
use Rattle.jvms_machine.specs.Heap.{stored_as}
use Rattle.jvms_machine.specs.Places.{kind_of_type, kind_size, value_size}
use Rattle.jvms_machine.specs.Returns.{returns_to}
use Rattle.jvms_machine.specs.State.{Frame, State, Thread, monitor_at}
use Rattle.jvms_machine.specs.declared.action.Effect.{Effect}
use Rattle.jvms_machine.specs.declared.action.Exception.{Exception}
use Rattle.jvms_machine.specs.declared.action.MonitorUse.{MonitorUse}
use Rattle.jvms_machine.specs.declared.machine.Limits.{Limits}
use Rattle.jvms_machine.specs.declared.value.Value.{Value}
use Rattle.jvms_program.specs.Program.{field_key_at}
use Rattle.jvms_program.specs.declared.key.FieldKey.{FieldKey}
use Rattle.jvms_program.specs.declared.number.FieldNumber.{FieldNumber}
use Rattle.jvms_program.specs.declared.number.MethodNumber.{MethodNumber}
use Rattle.jvms_program.specs.declared.program.Class.{Class}
use Rattle.jvms_program.specs.declared.thrown.Thrown.{Thrown}
use Rattle.std.proofs.Common.{IfSome, List, None, Option, Some, [], ap, false, is_none, refl, ℕ, ◌∙◌, ◌∷◌, ◌≡◌}
use Rattle.jvms_machine.specs.declared.action.Action.TheVariants as action
use Rattle.jvms_machine.specs.declared.action.Decision.TheVariants as decision
use Rattle.jvms_machine.specs.declared.action.Effect.TheVariants as effect
use Rattle.jvms_machine.specs.declared.value.Value.TheVariants as value

-- ---- Effects

-- A value has the size of the type of a field.
abbrev pub IsOfSize : List Class → FieldNumber → Value → Type 0
IsOfSize program n v = IfSome (field_key_at program n) (λ key. value_size v ≡ units_of (field_type key.descriptor))

abbrev pub IsKnownEffect : List Class → State → Effect (List ℕ) → Type 0
IsKnownEffect program s (effect.PutField r n v) = IsOfSize program n v
IsKnownEffect program s (effect.PutStatic n v) = IsOfSize program n v
IsKnownEffect program s (effect.Notifies r all) = is_none (monitor_at s.monitors r) ≡ false
IsKnownEffect program s _ = Unit {0}

abbrev pub IsKnownAction : List Class → State → TurnAction → Type 0
IsKnownAction program s (action.Reaches what act) = IsKnownEffect program s what
IsKnownAction program s _ = Unit {0}

abbrev pub IsKnownDecision : List Class → State → TurnDecision → Type 0
IsKnownDecision program s (decision.Applies act) = IsKnownAction program s act
IsKnownDecision program s _ = Unit {0}

-- ---- Sizes

stored_size : (type : FieldType) (v : Value) → value_size (stored_as type v) ≡ value_size v
stored_size type (value.Int n) = refl
stored_size type (value.Long n) = refl
stored_size type value.Second = refl
stored_size type value.Null = refl
stored_size type (value.Reference r) = refl
stored_size type (value.ReturnAddress i) = refl
stored_size type value.Unset = refl

pub written_size : (type : FieldType) (v : Value) (o : Option FieldKey) → value_size v ≡ kind_size (kind_of_type type) → ((key : FieldKey) → o ≡ Some key → type ≡ field_type key.descriptor) → IfSome o (λ key. value_size (stored_as type v) ≡ units_of (field_type key.descriptor))
written_size type v None whole spelled = tt
written_size type v (Some key) whole spelled = stored_size type v ∙ whole ∙ type_units type ∙ ap units_of (spelled key refl)

raise_known : (program : List Class) (s : State) (frames : List Frame) (e : Exception) → IsKnownDecision program s (raise_decision frames e)
raise_known program s [] e = tt
raise_known program s (f ∷ below) e = tt

pub throws_known : (program : List Class) (limits : Limits) (s r : State) (thread : Thread) (class : Thrown) → IsKnownDecision program s (throws limits r thread class)
unfolding throws
throws_known program limits s r thread class = raise_known program s thread.frames (exception_of limits r class)

pub returns_known : (program : List Class) (s : State) (n : MethodNumber) (below : List Frame) (result : Option Value) (unlock : Option MonitorUse) → IsKnownDecision program s (returns_to n below result unlock)
returns_known program s n [] result unlock = tt
returns_known program s n (f ∷ below) result unlock = tt
