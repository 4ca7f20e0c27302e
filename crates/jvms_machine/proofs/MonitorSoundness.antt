-- A turn of `monitorenter` or `monitorexit` keeps a sound state sound.
use Rattle.std.proofs.Common.{◌≡◌, ℕ, ◌≤◌, List, [], ◌∷◌, length, Option, Some, None, refl, sym}
use Rattle.jvms_machine.specs.declared.value.Value.{Value}
use Rattle.jvms_machine.specs.declared.machine.Limits.{Limits}
use Rattle.jvms_machine.specs.declared.state.StackFrame.TheVariants as stack_frame
use Rattle.jvms_machine.specs.declared.action.MonitorUse.{MonitorUse}
use Rattle.jvms_machine.specs.declared.action.Effect.TheVariants as effect
use Rattle.jvms_program.specs.declared.program.Class.{Class}
use Rattle.jvms_program.specs.declared.thrown.Thrown.TheVariants as thrown
use Rattle.jvms_machine.specs.Decisions.{TurnDecision}
use Rattle.jvms_machine.specs.State.{State, Object, Thread, Frame, MethodFrame, object_at}
use Rattle.jvms_machine.specs.Start.{Start}
use Rattle.jvms_machine.specs.Fields.{next_action}
use Rattle.jvms_machine.specs.Monitors.{monitor_exit}
use Rattle.jvms_machine.specs.Locking.{enter_object, exit_object, on_top_object, monitor_enter_decision, monitor_exit_decision}
use Rattle.jvms_machine.proofs.ThreadChanges.{Stands}
use Rattle.jvms_machine.proofs.KeptStates.{Keeps, still}
use Rattle.jvms_machine.proofs.ExceptionSoundness.{throws_keeps}
use Rattle.jvms_machine.proofs.StoredValues.{leads_is_reference}
use Rattle.jvms_machine.proofs.LockSoundness.{entered_is_sound, monitor_entry_keeps, monitor_exit_is, stands_with_unlock}
use Rattle.jvms_machine.proofs.EffectSoundness.{reaches_keeps, if_deep_keeps}
use Rattle.jvms_machine.proofs.ArraySoundness.{with_object_keeps}

module _ (program : List Class) (limits : Limits) (start : Start) (s : State) (t : ℕ) (thread : Thread) (frame : MethodFrame) (below : List Frame) (stands : Stands program limits s t thread (stack_frame.Call frame ∷ below)) where
  abbrev KeepsSound : TurnDecision → Type 0
  KeepsSound d = Keeps program limits start s t d

  enter_keeps : 1 ≤ length frame.activation.operands → (r : ℕ) (o : Object) → object_at s.heap r ≡ Some o → KeepsSound (enter_object limits s t thread frame r o)
  enter_keeps there r o at =
      monitor_entry_keeps program limits start s t thread stands r _ (leads_is_reference s.heap r o at)
      (λ monitor entered. reaches_keeps program limits start s t thread frame below stands (effect.Locks monitor) (next_action 1 frame.activation)
      (λ _. record { sound = entered_is_sound stands monitor entered; room = there; value = tt; heard = tt; can_be_made = λ _. entered.1 }))

  left_by : 1 ≤ length frame.activation.operands → (r : ℕ) (o : Object) (left : Option MonitorUse) → left ≡ monitor_exit s t r → KeepsSound (exit_object limits s t thread frame r o)
  left_by there r o None e = rw (← e) (throws_keeps start stands thrown.IllegalMonitorStateException)
  left_by there r o (Some monitor) e =
      let is = monitor_exit_is s t r monitor (sym e) in
      rw (← e) (reaches_keeps program limits start s t thread frame below stands (effect.Unlocks monitor) (next_action 1 frame.activation)
      (λ _. record { sound = (stands_with_unlock stands (Some monitor)).sound; room = there; value = tt; heard = is; can_be_made = λ _. tt }))

  top_keeps : (rest : ℕ → Object → TurnDecision) (operands : List Value) → ((r : ℕ) (o : Object) → object_at s.heap r ≡ Some o → KeepsSound (rest r o)) → KeepsSound (on_top_object limits s thread operands rest)
  top_keeps rest [] keeps = still t stands.sound
  top_keeps rest (v ∷ others) keeps = with_object_keeps program limits start s t thread frame below stands v rest keeps

  pub monitor_enter_keeps : KeepsSound (monitor_enter_decision limits s t thread frame)
  unfolding monitor_enter_decision
  monitor_enter_keeps =
      if_deep_keeps program limits start s t thread frame below stands 1 0 _
      (λ depth. top_keeps (enter_object limits s t thread frame) frame.activation.operands (enter_keeps depth.there))

  pub monitor_exit_keeps : KeepsSound (monitor_exit_decision limits s t thread frame)
  unfolding monitor_exit_decision
  monitor_exit_keeps =
      if_deep_keeps program limits start s t thread frame below stands 1 0 _
      (λ depth. top_keeps (exit_object limits s t thread frame) frame.activation.operands (λ r o at. left_by depth.there r o (monitor_exit s t r) refl))
