-- Actions that begin no initialisation keep the sizes of the static fields.
use Rattle.enabled_laws.proofs.Heaps.{AreSized, fields_themselves, written_sized}
use Rattle.enabled_laws.proofs.KnownEffects.{IsKnownAction, IsKnownEffect}
use Rattle.jvms_file.specs.Descriptors.{field_type, units_of}
use Rattle.jvms_machine.specs.Actions.{after_effect, applied_to, operands_of, put_field, put_static, with_exception, with_lock, with_result, with_unlock}
use Rattle.jvms_machine.specs.Decisions.{TurnAction}
use Rattle.jvms_machine.specs.Places.{value_size}
use Rattle.jvms_machine.specs.Start.{Start}
use Rattle.jvms_machine.specs.State.{State}
use Rattle.jvms_machine.specs.declared.action.Effect.{Effect}
use Rattle.jvms_machine.specs.declared.action.Exception.{Exception}
use Rattle.jvms_machine.specs.declared.action.Lock.{Lock}
use Rattle.jvms_machine.specs.declared.action.MonitorUse.{MonitorUse}
use Rattle.jvms_machine.specs.declared.value.Value.{Value}
use Rattle.jvms_program.specs.Program.{field_key_at}
use Rattle.jvms_program.specs.declared.key.FieldKey.{FieldKey}
use Rattle.jvms_program.specs.declared.program.Class.{Class}
use Rattle.std.proofs.Common.{Bool, IfSome, List, None, Option, Some, false, slice_get, true, ℕ, ◌==◌, ◌≡◌}
use Rattle.std.proofs.lemmas.Bool.{cond_both, false≢true}
use Rattle.jvms_machine.specs.declared.action.Action.TheVariants as action
use Rattle.jvms_machine.specs.declared.action.Effect.TheVariants as effect
use Rattle.jvms_machine.specs.declared.action.Exception.TheVariants as exception
use Rattle.jvms_machine.specs.declared.action.Lock.TheVariants as lock

-- ---- Fields of classes

-- Decides whether an action begins no initialisation.
abbrev pub begins_none : TurnAction → Bool
begins_none (action.Begins class) = false
begins_none _ = true

module _ (program : List Class) (start : Start) (s : State) (t : ℕ) where
  -- The values of static fields have the same sizes, or those of their types.
  abbrev pub KeepsStatics : State → Type 0
  KeepsStatics after = AreSized s.statics after.statics

  put_field_statics : (r : ℕ) (v : Value) (o : Option FieldKey) → KeepsStatics (put_field s r v o)
  put_field_statics r v None = fields_themselves s.statics
  put_field_statics r v (Some key) = fields_themselves s.statics

  put_static_statics : (v : Value) (o : Option FieldKey) → IfSome o (λ key. value_size v ≡ units_of (field_type key.descriptor)) → KeepsStatics (put_static s v o)
  put_static_statics v None size = fields_themselves s.statics
  put_static_statics v (Some key) size = written_sized key v s.statics size

  effect_statics : (operands : List Value) (what : Effect (List ℕ)) → IsKnownEffect program s what → KeepsStatics (after_effect program s t operands what)
  effect_statics operands (effect.PutField r n v) known = put_field_statics r v (field_key_at program n)
  effect_statics operands (effect.PutStatic n v) known = put_static_statics v (field_key_at program n) known
  effect_statics operands _ known = fields_themselves s.statics

  lock_statics : (locked : Lock) → KeepsStatics (with_lock program s t locked)
  lock_statics lock.Nothing = fields_themselves s.statics
  lock_statics (lock.Monitor monitor) = fields_themselves s.statics
  lock_statics (lock.NewClass class r) = fields_themselves s.statics

  unlock_statics : (unlock : Option MonitorUse) → KeepsStatics (with_unlock s unlock)
  unlock_statics None = fields_themselves s.statics
  unlock_statics (Some monitor) = fields_themselves s.statics

  exception_statics : (e : Exception) → KeepsStatics (with_exception program s e)
  exception_statics (exception.New class) = fields_themselves s.statics
  exception_statics (exception.Existing r) = fields_themselves s.statics

  result_statics : (made : State) (result : Option Value) → KeepsStatics made → KeepsStatics (with_result made t result)
  result_statics made result keeps = cond_both (t == 0) _ _ KeepsStatics (λ _. keeps) (λ _. keeps)

  pub action_statics : (act : TurnAction) → begins_none act ≡ true → IsKnownAction program s act → KeepsStatics (applied_to program start s t act)
  unfolding applied_to
  action_statics (action.Reaches what act) begins known = effect_statics (operands_of (slice_get s.threads t)) what known
  action_statics (action.Begins class) begins known = absurd (false≢true begins)
  action_statics (action.Enters method body locked) begins known = lock_statics locked
  action_statics (action.Ends method result unlock) begins known = result_statics _ result (unlock_statics unlock)
  action_statics (action.Calls method body takes locked) begins known = lock_statics locked
  action_statics (action.Returns method result unlock) begins known = unlock_statics unlock
  action_statics (action.Unwinds method last unlock) begins known = unlock_statics unlock
  action_statics (action.FailsToUnlock method e last) begins known = exception_statics e
  action_statics (action.FailsInitialisation class e last) begins known = exception_statics e
  action_statics (action.Raises e) begins known = exception_statics e
  action_statics (action.Fails e) begins known = exception_statics e
  action_statics _ begins known = fields_themselves s.statics
