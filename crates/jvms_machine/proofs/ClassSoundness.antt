-- A turn of an instruction that names a class, or loads a string or a class, keeps a sound state sound.
use Rattle.std.proofs.Common.{◌≡◌, ℕ, Bool, true, false, not, List, [], ◌∷◌, ◌++◌, length, Option, None, Some, refl, sym, ◌∙◌, arith}
use Rattle.std.specs.Prelude.{pos}
use Rattle.std.specs.List.{AllByRecursion}
use Rattle.std.proofs.lemmas.Bool.{cond_both}
use Rattle.jvms_machine.specs.declared.value.Value.{Value}
use Rattle.jvms_machine.specs.declared.value.Value.TheVariants as value
use Rattle.jvms_machine.specs.declared.machine.Limits.{Limits}
use Rattle.jvms_machine.specs.declared.state.StackFrame.TheVariants as stack_frame
use Rattle.jvms_machine.specs.declared.action.FrameAction.TheVariants as frame_action
use Rattle.jvms_machine.specs.declared.action.NewObject.{NewObject}
use Rattle.jvms_machine.specs.declared.action.NewObject.TheVariants as new_object
use Rattle.jvms_machine.specs.declared.action.Effect.TheVariants as effect
use Rattle.jvms_file.specs.declared.insn.ClassUse.{ClassUse}
use Rattle.jvms_file.specs.declared.insn.ClassUse.TheVariants as class_use
use Rattle.jvms_program.specs.declared.program.Class.{Class}
use Rattle.jvms_program.specs.declared.program.Loadable.{Loadable}
use Rattle.jvms_program.specs.declared.program.Loadable.TheVariants as loadable
use Rattle.jvms_program.specs.declared.thrown.Thrown.TheVariants as thrown
use Rattle.jvms_program.specs.Program.{class_named, class_number}
use Rattle.jvms_program.specs.Resolution.{class_exists, fits}
use Rattle.jvms_machine.specs.Decisions.{TurnDecision}
use Rattle.jvms_machine.specs.State.{State, Object, Thread, Frame, MethodFrame, object_at, class_of, is_text, is_class_object, text_reference, class_reference, first_instance, IsReference, IsValue, IsObject}
use Rattle.jvms_machine.specs.Places.{value_size}
use Rattle.jvms_machine.specs.Start.{Start}
use Rattle.jvms_machine.specs.Exceptions.{has_room_for}
use Rattle.jvms_machine.specs.Heap.{next_reference}
use Rattle.jvms_machine.specs.Fields.{reaches, next_action}
use Rattle.jvms_machine.specs.Heap.{class_name_at}
use Rattle.jvms_machine.specs.Actions.{new_objects, new_count, new_elements}
use Rattle.jvms_machine.specs.Objects.{is_instantiable, creation_if_room, instance_of_number, new_instance_decision, with_class_of, cast, instance_test_result, class_decision, existing_or_new, loadable_decision}
use Rattle.jvms_machine.specs.Turn.{HasItsDimensions}
use Rattle.jvms_machine.proofs.LimitLaws.{room_is}
use Rattle.jvms_machine.proofs.ThreadChanges.{Stands}
use Rattle.jvms_machine.proofs.OpeningSoundness.{first_instance_is}
use Rattle.jvms_machine.proofs.KeptStates.{Keeps, still}
use Rattle.jvms_machine.proofs.ExceptionSoundness.{throws_keeps}
use Rattle.jvms_machine.proofs.InitialisationSoundness.{class_use_keeps}
use Rattle.jvms_machine.proofs.StoredValues.{found_is_reference}
use Rattle.jvms_machine.proofs.EffectSoundness.{HasDepth, reaches_keeps, if_deep_keeps, creation_keeps}
use Rattle.jvms_machine.proofs.ArraySoundness.{new_class_array_keeps}

module _ (program : List Class) (limits : Limits) (start : Start) (s : State) (t : ℕ) (thread : Thread) (frame : MethodFrame) (below : List Frame) (stands : Stands program limits s t thread (stack_frame.Call frame ∷ below)) where
  abbrev KeepsSound : TurnDecision → Type 0
  KeepsSound d = Keeps program limits start s t d

  -- ---- New objects

  -- One object without elements.
  one_keeps : (what : NewObject (List ℕ)) → HasDepth frame 0 1 → length (new_objects program (next_reference s.heap) frame.activation.operands what) ≡ 1 → new_count frame.activation.operands what ≡ 1 → new_elements frame.activation.operands what ≡ 0 → HasItsDimensions frame.activation.operands what → AllByRecursion (IsObject program (s.heap ++ new_objects program (next_reference s.heap) frame.activation.operands what)) (new_objects program (next_reference s.heap) frame.activation.operands what) → KeepsSound (creation_if_room limits s thread 0 what)
  one_keeps what depth length_is count none has_dimensions are =
      cond_both (has_room_for 1 limits s) _ _ KeepsSound
      (λ has.
      let room = room_is 1 limits s has in
      let elements = stands.sound.elements in
      creation_keeps program limits start s t thread frame below stands 0 what depth (length_is ∙ sym count) are (omega arith) (omega arith) (λ _. omega arith) has_dimensions)
      (λ _. throws_keeps start stands thrown.OutOfMemoryError)

  -- ---- new

  instance_keeps : (o : Option ℕ) → HasDepth frame 0 1 → KeepsSound (instance_of_number program limits s t thread o)
  instance_keeps None depth = still t stands.sound
  instance_keeps (Some class) depth =
      let name = class_name_at program class in
      class_use_keeps program limits start s t thread stands class _
      (one_keeps (new_object.Instance class) depth refl refl refl tt (first_instance_is program (s.heap ++ first_instance program name ∷ []) name, tt))

  new_instance_keeps : (name : List ℕ) (o : Option Class) → HasDepth frame 0 1 → KeepsSound (new_instance_decision program limits s t thread name o)
  new_instance_keeps name None depth = throws_keeps start stands thrown.NoClassDefFoundError
  new_instance_keeps name (Some c) depth =
      cond_both (not (is_instantiable c.kind)) _ _ KeepsSound
      (λ _. throws_keeps start stands thrown.InstantiationError)
      (λ _. instance_keeps (class_number program name) depth)

  -- ---- checkcast and instanceof

  class_of_by : (name : List ℕ) (r : ℕ) (o : Option Object) (others : List Value) (null : TurnDecision) (on_result : Bool → TurnDecision) → o ≡ object_at s.heap r → ((b : Bool) → KeepsSound (on_result b)) → KeepsSound (with_class_of program limits s thread name (value.Reference r ∷ others) null on_result)
  class_of_by name r None others null on_result e keeps = rw (← e) (still t stands.sound)
  class_of_by name r (Some o) others null on_result e keeps =
      rw (← e) (cond_both (class_exists program name) _ _ KeepsSound (λ _. keeps (fits program (class_of o) name)) (λ _. throws_keeps start stands thrown.NoClassDefFoundError))

  with_class_keeps : (name : List ℕ) (operands : List Value) (null : TurnDecision) (on_result : Bool → TurnDecision) → KeepsSound null → ((b : Bool) → KeepsSound (on_result b)) → KeepsSound (with_class_of program limits s thread name operands null on_result)
  with_class_keeps name (value.Null ∷ others) null on_result null_keeps keeps = null_keeps
  with_class_keeps name (value.Reference r ∷ others) null on_result null_keeps keeps = class_of_by name r (object_at s.heap r) others null on_result refl keeps
  with_class_keeps name _ null on_result null_keeps keeps = still t stands.sound

  goes_on_keeps : KeepsSound (reaches effect.Nothing (next_action 0 frame.activation))
  goes_on_keeps =
      reaches_keeps program limits start s t thread frame below stands effect.Nothing (next_action 0 frame.activation)
      (λ _. record { sound = stands.sound; room = omega arith; value = tt; heard = tt; can_be_made = λ _. tt })

  cast_keeps : (b : Bool) → KeepsSound (cast limits s thread frame b)
  cast_keeps true = goes_on_keeps
  cast_keeps false = throws_keeps start stands thrown.ClassCastException

  -- An existing value replaces operands.
  puts_keeps : (takes : ℕ) (v : Value) → HasDepth frame takes (value_size v) → IsValue s.heap v → KeepsSound (reaches effect.Nothing (frame_action.Push takes v))
  puts_keeps takes v depth is =
      reaches_keeps program limits start s t thread frame below stands effect.Nothing (frame_action.Push takes v)
      (λ _. record { sound = stands.sound; room = (depth.there, depth.room); value = is; heard = tt; can_be_made = λ _. tt })

  told_keeps : (b : Bool) → HasDepth frame 1 1 → KeepsSound (instance_test_result b)
  told_keeps true depth = puts_keeps 1 (value.Int (pos 1)) depth tt
  told_keeps false depth = puts_keeps 1 (value.Int (pos 0)) depth tt

  -- ---- The instructions that name a class

  pub class_keeps : (how : ClassUse) (name : List ℕ) → KeepsSound (class_decision program limits s t thread frame how name)
  unfolding class_decision
  class_keeps class_use.New name =
      if_deep_keeps program limits start s t thread frame below stands 0 1 _ (λ depth. new_instance_keeps name (class_named program name) depth)
  class_keeps class_use.NewArray name = new_class_array_keeps program limits start s t thread frame below stands name
  class_keeps class_use.CheckCast name =
      if_deep_keeps program limits start s t thread frame below stands 1 1 _
      (λ _. with_class_keeps name frame.activation.operands (reaches effect.Nothing (next_action 0 frame.activation)) (cast limits s thread frame) goes_on_keeps cast_keeps)
  class_keeps class_use.InstanceOf name =
      if_deep_keeps program limits start s t thread frame below stands 1 1 _
      (λ depth. with_class_keeps name frame.activation.operands (instance_test_result false) instance_test_result (told_keeps false depth) (λ b. told_keeps b depth))

  -- ---- ldc of a string or a class

  held_keeps : (o : Option ℕ) (what : NewObject (List ℕ)) → HasDepth frame 0 1 → ((r : ℕ) → o ≡ Some r → IsReference s.heap r) → KeepsSound (creation_if_room limits s thread 0 what) → KeepsSound (existing_or_new limits s thread o what)
  held_keeps None what depth is made = made
  held_keeps (Some r) what depth is made = puts_keeps 0 (value.Reference r) depth (is r refl)

  pub loadable_keeps : (c : Loadable) → KeepsSound (loadable_decision program limits s thread frame c)
  unfolding loadable_decision
  loadable_keeps (loadable.String units) =
      if_deep_keeps program limits start s t thread frame below stands 0 1 _
      (λ depth. held_keeps (text_reference s.heap units) (new_object.Text units) depth (λ r is. found_is_reference (is_text units) s.heap r is)
      (one_keeps (new_object.Text units) depth refl refl refl tt (tt, tt)))
  loadable_keeps (loadable.Class name) =
      if_deep_keeps program limits start s t thread frame below stands 0 1 _
      (λ depth. cond_both (class_exists program name) _ _ KeepsSound
      (λ _. held_keeps (class_reference s.heap name) (new_object.ClassObject name) depth (λ r is. found_is_reference (is_class_object name) s.heap r is)
      (one_keeps (new_object.ClassObject name) depth refl refl refl tt (tt, tt)))
      (λ _. throws_keeps start stands thrown.NoClassDefFoundError))
  loadable_keeps _ = still t stands.sound
