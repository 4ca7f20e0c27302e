-- A turn that calls a native method of a built-in class keeps a sound state sound. The printed value is an operand of
-- its call.
use Rattle.std.proofs.Common.{◌≡◌, ℕ, ◌≤◌, Bool, true, ◌&&◌, nat_lt, List, ◌∷◌, ◌++◌, length, Option, None, Some, slice_get, codes, refl, arith}
use Rattle.std.specs.List.{AllByRecursion}
use Rattle.std.proofs.lemmas.Bool.{cond_both, ltb-true}
use Rattle.jvms_machine.specs.declared.value.Value.{Value}
use Rattle.jvms_machine.specs.declared.value.Value.TheVariants as value
use Rattle.jvms_machine.specs.declared.machine.Limits.{Limits}
use Rattle.jvms_machine.specs.declared.state.StackFrame.TheVariants as stack_frame
use Rattle.jvms_machine.specs.declared.action.Printed.{Printed}
use Rattle.jvms_machine.specs.declared.action.Printed.TheVariants as printed
use Rattle.jvms_machine.specs.declared.action.Effect.{Effect}
use Rattle.jvms_machine.specs.declared.action.Effect.TheVariants as effect
use Rattle.jvms_file.specs.Names.{same_text}
use Rattle.jvms_program.specs.declared.program.Class.{Class}
use Rattle.jvms_program.specs.declared.program.Method.{Method}
use Rattle.jvms_program.specs.declared.thrown.Thrown.TheVariants as thrown
use Rattle.jvms_machine.specs.Decisions.{TurnDecision}
use Rattle.jvms_machine.specs.State.{State, Object, instance, array, text, class_object, Thread, Frame, MethodFrame, object_at, same_object, IsAtInvoke, IsReference, IsValue, Sound}
use Rattle.jvms_machine.specs.Start.{Start}
use Rattle.jvms_machine.specs.Output.{line_bytes}
use Rattle.jvms_machine.specs.Fields.{reaches, next_action}
use Rattle.jvms_machine.specs.Threads.{thread_of, start_decision, join_decision, thread_native_decision}
use Rattle.jvms_machine.specs.Actions.{after_effect}
use Rattle.jvms_machine.specs.Turn.{CanBeMade}
use Rattle.jvms_machine.specs.Natives.{prints, object_printed, value_printed, print_decision, native_of_class}
use Rattle.jvms_machine.specs.Places.{whole_top}
use Rattle.jvms_machine.proofs.SearchLaws.{none_passes}
use Rattle.jvms_machine.proofs.LimitLaws.{limits_have_room}
use Rattle.jvms_machine.proofs.StartedThreads.{started_is_sound}
use Rattle.jvms_machine.proofs.ThreadChanges.{IsQuiet, Stands}
use Rattle.jvms_machine.proofs.KeptStates.{IsHeardEffect, Keeps, still}
use Rattle.jvms_machine.proofs.ExceptionSoundness.{throws_keeps}
use Rattle.jvms_machine.proofs.ObjectSoundness.{printed_is_sound}
use Rattle.jvms_machine.proofs.EffectSoundness.{frame_is_fit, reaches_keeps}
use Rattle.jvms_machine.proofs.WaitSoundness.{object_native_keeps}

-- ---- The turn

module _ (program : List Class) (limits : Limits) (start : Start) (s : State) (t : ℕ) (thread : Thread) (frame : MethodFrame) (below : List Frame) (stands : Stands program limits s t thread (stack_frame.Call frame ∷ below)) where
  abbrev KeepsSound : TurnDecision → Type 0
  KeepsSound d = Keeps program limits start s t d

  prints_keeps : (takes : ℕ) (what : Printed) (ends_line : Bool) → takes ≤ length frame.activation.operands → KeepsSound (prints frame.activation takes what ends_line)
  prints_keeps takes what ends_line there =
      reaches_keeps program limits start s t thread frame below stands (effect.Prints what ends_line) (next_action takes frame.activation)
      (λ _. record { sound = printed_is_sound stands.sound (s.output ++ line_bytes s.heap what ends_line); room = there; value = tt; heard = tt; can_be_made = λ _. tt })

  object_printed_keeps : (takes : ℕ) (ends_line : Bool) (r : ℕ) (o : Option Object) → takes ≤ length frame.activation.operands → KeepsSound (object_printed frame.activation takes ends_line r o)
  object_printed_keeps takes ends_line r None there = still t stands.sound
  object_printed_keeps takes ends_line r (Some (text units)) there = prints_keeps takes (printed.Text r) ends_line there
  object_printed_keeps takes ends_line r (Some (instance class fields)) there = still t stands.sound
  object_printed_keeps takes ends_line r (Some (array class elements)) there = still t stands.sound
  object_printed_keeps takes ends_line r (Some (class_object name)) there = still t stands.sound

  value_printed_keeps : (takes : ℕ) (ends_line : Bool) (o : Option Value) → takes ≤ length frame.activation.operands → KeepsSound (value_printed s frame.activation takes ends_line o)
  value_printed_keeps takes ends_line (Some (value.Int n)) there = prints_keeps takes (printed.Int n) ends_line there
  value_printed_keeps takes ends_line (Some (value.Long n)) there = prints_keeps takes (printed.Long n) ends_line there
  value_printed_keeps takes ends_line (Some value.Null) there = prints_keeps takes printed.Null ends_line there
  value_printed_keeps takes ends_line (Some (value.Reference r)) there = object_printed_keeps takes ends_line r (object_at s.heap r) there
  value_printed_keeps takes ends_line _ there = still t stands.sound

  print_keeps : (takes : ℕ) (m : Method) → takes ≤ length frame.activation.operands → KeepsSound (print_decision s frame.activation takes m)
  print_keeps takes m there =
      cond_both (same_text m.name (codes "println") && same_text m.descriptor (codes "()V")) _ _ KeepsSound
      (λ _. prints_keeps takes printed.Nothing true there)
      (λ _. value_printed_keeps takes (same_text m.name (codes "println")) (whole_top frame.activation.operands) there)

  -- ---- The methods of Thread

  -- The reference exists, and there is an operand to remove.
  abbrev IsReferenceThere : ℕ → Type 0
  IsReferenceThere r = IsReference s.heap r × (1 ≤ length frame.activation.operands)

  start_keeps : (r : ℕ) (o : Option ℕ) → thread_of s.threads r ≡ o → IsReferenceThere r → KeepsSound (start_decision limits s thread frame.activation r o)
  start_keeps r (Some u) found there = throws_keeps start stands thrown.IllegalThreadStateException
  start_keeps r None found there =
      cond_both (nat_lt (length s.threads) limits.threads) _ _ KeepsSound
      (λ has.
      let room = ltb-true (length s.threads) limits.threads has in
      reaches_keeps program limits start s t thread frame below stands (effect.Starts r (length s.threads)) (next_action 1 frame.activation)
      (λ _. record {
        sound = started_is_sound t thread r stands.sound stands.given_out there.0 (none_passes (λ (u : Thread). same_object u.object (Some r)) s.threads found) room;
        room = there.1;
        value = tt;
        heard = refl;
        can_be_made = λ limited. omega (arith, (limits_have_room limits limited).few_threads);
      }))
      (λ _. throws_keeps start stands thrown.OutOfMemoryError)

  goes_on_keeps : (what : Effect (List ℕ)) → Sound program limits (after_effect program s t frame.activation.operands what) → 1 ≤ length frame.activation.operands → CanBeMade s frame.activation.operands what → IsHeardEffect s what → KeepsSound (reaches what (next_action 1 frame.activation))
  goes_on_keeps what sound there can heard =
      reaches_keeps program limits start s t thread frame below stands what (next_action 1 frame.activation)
      (λ _. record { sound = sound; room = there; value = tt; heard = heard; can_be_made = λ _. can })

  joined_by : (u : ℕ) (o : Option Thread) → o ≡ slice_get s.threads u → 1 ≤ length frame.activation.operands → KeepsSound (join_decision s frame.activation (Some u))
  joined_by u None e there = rw (← e) (still t stands.sound)
  joined_by u (Some other) e there =
      rw (← e) (cond_both other.ended _ _ KeepsSound (λ _. goes_on_keeps (effect.Joins u) stands.sound there tt tt) (λ _. still t stands.sound))

  join_keeps : (o : Option ℕ) → 1 ≤ length frame.activation.operands → KeepsSound (join_decision s frame.activation o)
  join_keeps None there = goes_on_keeps effect.Nothing stands.sound there tt tt
  join_keeps (Some u) there = joined_by u (slice_get s.threads u) refl there

  thread_native_keeps : (m : Method) (operands : List Value) → AllByRecursion (IsValue s.heap) operands → (1 ≤ length operands → 1 ≤ length frame.activation.operands) → KeepsSound (thread_native_decision limits s thread frame.activation m operands)
  thread_native_keeps m (value.Reference r ∷ others) values there =
      cond_both (same_text m.name (codes "start")) _ _ KeepsSound
      (λ _. start_keeps r (thread_of s.threads r) refl (values.0, there (omega arith)))
      (λ _. join_keeps (thread_of s.threads r) (there (omega arith)))
  thread_native_keeps m _ values there = still t stands.sound

  -- A native method that takes operands.
  pub native_keeps : IsAtInvoke (stack_frame.Call frame ∷ below) → IsQuiet thread → (takes : ℕ) (m : Method) (o : Option Class) → takes ≤ length frame.activation.operands → KeepsSound (native_of_class limits s t thread frame.activation takes m o)
  native_keeps at_invoke quiet takes m None there = still t stands.sound
  native_keeps at_invoke quiet takes m (Some c) there =
      cond_both (same_text c.name (codes "java/io/PrintStream")) _ _ KeepsSound
      (λ _. print_keeps takes m there)
      (λ _. cond_both (same_text c.name (codes "java/lang/Thread")) _ _ KeepsSound
      (λ _. thread_native_keeps m frame.activation.operands (frame_is_fit frame below stands).operands (λ some. some))
      (λ _. cond_both (same_text c.name (codes "java/lang/Object")) _ _ KeepsSound
      (λ _. object_native_keeps program limits start s t thread frame below stands quiet m frame.activation.operands at_invoke (λ some. some))
      (λ _. throws_keeps start stands thrown.UnsatisfiedLinkError)))
