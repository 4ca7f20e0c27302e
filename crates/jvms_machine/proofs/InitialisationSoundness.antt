-- A turn that requires the initialisation of a class keeps a sound state sound.
use Rattle.std.proofs.Common.{◌≡◌, ℕ, ◌+◌, ◌<◌, ◌≤◌, false, not, ◌==◌, nat_le, leb-false, List, length, Option, Some, None, IfSome, slice_get, slice_set, refl, sym, ap, ◌∙◌, subst, arith, length-set}
use Rattle.std.proofs.lemmas.Bool.{cond_both, not-false}
use Rattle.std.proofs.lemmas.Option.{slice_get_within}
use Rattle.jvms_machine.specs.declared.machine.Limits.{Limits}
use Rattle.jvms_machine.specs.declared.state.Initialisation.{Initialisation}
use Rattle.jvms_machine.specs.declared.state.Initialisation.TheVariants as initialisation
use Rattle.jvms_machine.specs.declared.action.Action.TheVariants as action
use Rattle.jvms_machine.specs.declared.action.Decision.TheVariants as decision
use Rattle.jvms_program.specs.declared.program.Class.{Class}
use Rattle.jvms_program.specs.declared.thrown.Thrown.TheVariants as thrown
use Rattle.jvms_machine.specs.Decisions.{TurnDecision}
use Rattle.jvms_machine.specs.State.{State, Thread, Frame, IsWait, Sound}
use Rattle.jvms_machine.specs.Exceptions.{has_room_for}
use Rattle.jvms_machine.specs.Start.{Start}
use Rattle.jvms_machine.specs.Initialisation.{constants_of, new_texts, begin_decision, requiring_class_in, class_use_decision}
use Rattle.jvms_machine.specs.Actions.{with_changed, with_class_constants, with_initialisation, with_initialisation_frame, applied_to, items_of}
use Rattle.jvms_machine.specs.Marks.{calls_in, calls_of}
use Rattle.jvms_machine.proofs.LimitLaws.{room_is}
use Rattle.jvms_machine.proofs.ConstantSoundness.{class_constants_are_sound}
use Rattle.jvms_machine.proofs.InitialisationOrder.{order_begun}
use Rattle.jvms_machine.proofs.MarkLaws.{unmarked_by, changed_calls}
use Rattle.jvms_machine.proofs.ThreadChanges.{Stands, thread_is, changed_is_sound, stack_begun}
use Rattle.jvms_machine.proofs.KeptStates.{Keeps, still}
use Rattle.jvms_machine.proofs.ExceptionSoundness.{throws_keeps}

module _ (program : List Class) (limits : Limits) (start : Start) (s : State) (t : ℕ) (thread : Thread) where
  abbrev KeepsSound : TurnDecision → Type 0
  KeepsSound d = Keeps program limits start s t d

  abbrev HasFrames : List Frame → Type 0
  HasFrames frames = Stands program limits s t thread frames

  -- ---- A required initialisation

  -- A class that begins, in the state with its constants.
  begun_is_sound : {frames : List Frame} (made : State) → Stands program limits made t thread frames → made.initialisations ≡ s.initialisations → (class : ℕ) (c : Class) → slice_get s.initialisations class ≡ Some initialisation.NotBegun → slice_get program class ≡ Some c → length thread.frames < limits.frames → Sound program limits (with_initialisation (with_changed made t (with_initialisation_frame class)) class (initialisation.InProgress t))
  begun_is_sound made stands same class c begins is room =
      let was = thread_is stands in
      let begins_there : slice_get made.initialisations class ≡ Some initialisation.NotBegun = ap (λ (is : List Initialisation). slice_get is class) same ∙ begins in
      changed_is_sound stands (with_initialisation_frame class) (slice_set made.initialisations class (initialisation.InProgress t)) made.result (refl, refl)
      ((slice_get_within program class c is, was.0), stack_begun program class false thread.frames was.1, omega arith, was.3, was.4, subst (λ o. IfSome o (IsWait made.heap (with_initialisation_frame class thread))) (sym stands.awake) tt)
      (length-set made.initialisations class (initialisation.InProgress t))
      (order_begun made.threads made.initialisations t thread (with_initialisation_frame class thread) stands.given_out stands.sound.initialised class begins_there refl)
      stands.sound.result

  begins_keeps : {frames : List Frame} → HasFrames frames → (class : ℕ) (c : Class) → slice_get s.initialisations class ≡ Some initialisation.NotBegun → slice_get program class ≡ Some c → length s.heap + length (new_texts s.heap (constants_of c.fields)) ≤ limits.objects → length thread.frames < limits.frames → KeepsSound (decision.Applies (action.Begins class))
  unfolding applied_to items_of
  begins_keeps {frames = frames} stands class c begins is has_room room =
      let made = with_class_constants s (Some c) in
      let stands_there : Stands program limits made t thread frames = record { sound = class_constants_are_sound stands.sound c has_room; given_out = stands.given_out; awake = stands.awake; frames_are = stands.frames_are } in
      rw is (
        (λ _. begun_is_sound made stands_there refl class c begins is room),
        (λ _ _. tt),
        unmarked_by program t (calls_of s t) _ (changed_calls s.threads t thread (with_initialisation_frame class) stands.given_out ∙ sym (ap calls_in stands.given_out)),
        (λ _. tt),
      )

  begin_keeps : {frames : List Frame} → HasFrames frames → (class : ℕ) (o : Option Class) → slice_get s.initialisations class ≡ Some initialisation.NotBegun → slice_get program class ≡ o → KeepsSound (begin_decision limits s thread class o)
  begin_keeps stands class None begins is = still t stands.sound
  begin_keeps stands class (Some c) begins is =
      let texts = length (new_texts s.heap (constants_of c.fields)) in
      cond_both (not (has_room_for texts limits s)) _ _ KeepsSound
      (λ _. throws_keeps start stands thrown.OutOfMemoryError)
      (λ has. cond_both (nat_le limits.frames (length thread.frames)) _ _ KeepsSound
      (λ _. throws_keeps start stands thrown.StackOverflowError)
      (λ room. begins_keeps stands class c begins is (room_is texts limits s (not-false (has_room_for texts limits s) has)) (leb-false limits.frames (length thread.frames) room)))

  class_use_at_keeps : {frames : List Frame} → HasFrames frames → (class : ℕ) (o : Option Initialisation) (continued : TurnDecision) → slice_get s.initialisations class ≡ o → KeepsSound continued → KeepsSound (requiring_class_in program limits s t thread class o continued)
  class_use_at_keeps stands class None continued is keeps = still t stands.sound
  class_use_at_keeps stands class (Some initialisation.NotBegun) continued is keeps = begin_keeps stands class (slice_get program class) is refl
  class_use_at_keeps stands class (Some (initialisation.InProgress u)) continued is keeps =
      cond_both (u == t) continued _ KeepsSound (λ _. keeps) (λ _. still t stands.sound)
  class_use_at_keeps stands class (Some initialisation.Done) continued is keeps = keeps
  class_use_at_keeps stands class (Some initialisation.Erroneous) continued is keeps = throws_keeps start stands thrown.NoClassDefFoundError

  -- A turn that requires the initialisation of a class.
  pub class_use_keeps : {frames : List Frame} → HasFrames frames → (class : ℕ) (continued : TurnDecision) → KeepsSound continued → KeepsSound (class_use_decision program limits s t thread class continued)
  class_use_keeps stands class continued keeps = class_use_at_keeps stands class (slice_get s.initialisations class) continued refl keeps
