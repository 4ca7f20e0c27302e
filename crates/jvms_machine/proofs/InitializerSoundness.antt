-- A turn with an initialisation on top keeps a sound state sound. The superclass is initialised first, then `<clinit>`
-- is called above the frame, or the class is done and the frame is popped.
use Rattle.std.proofs.Common.{◌≡◌, ℕ, ◌<◌, ◌≤◌, Bool, true, false, ◌&&◌, nat_le, leb-false, List, [], ◌∷◌, length, Option, Some, None, codes, slice_get, slice_set, drop, option_and_then, option_map, unwrap_or, refl, sym, ap, ◌∙◌, arith, length-set}
use Rattle.std.specs.List.{AllByRecursion}
use Rattle.std.proofs.lemmas.Bool.{cond_both, and_parts}
use Rattle.std.proofs.lemmas.Option.{slice_get_within}
use Rattle.jvms_machine.specs.declared.machine.Limits.{Limits}
use Rattle.jvms_machine.specs.declared.state.Initialisation.TheVariants as initialisation
use Rattle.jvms_machine.specs.declared.state.StackFrame.TheVariants as stack_frame
use Rattle.jvms_machine.specs.declared.action.Action.TheVariants as action
use Rattle.jvms_machine.specs.declared.action.Decision.TheVariants as decision
use Rattle.jvms_file.specs.Names.{same_text}
use Rattle.jvms_program.specs.declared.program.Class.{Class}
use Rattle.jvms_program.specs.declared.program.Method.{Method}
use Rattle.jvms_program.specs.declared.program.MethodFlags.{MethodFlags}
use Rattle.jvms_program.specs.declared.program.Body.{Body}
use Rattle.jvms_program.specs.declared.number.MethodNumber.{MethodNumber}
use Rattle.jvms_program.specs.declared.thrown.Thrown.TheVariants as thrown
use Rattle.jvms_program.specs.Program.{IsProgram, HasItsFlags}
use Rattle.jvms_machine.specs.Decisions.{TurnDecision}
use Rattle.jvms_machine.specs.State.{State, Thread, Frame, is_synchronized_at, is_initialisation_of}
use Rattle.jvms_machine.specs.Start.{Start}
use Rattle.jvms_machine.specs.Calls.{frame_of_call}
use Rattle.jvms_machine.specs.Initialisation.{initializer_of, asked_superclass, initializer_call, initializer_decision, superclass_decision, initialisation_decision}
use Rattle.jvms_machine.specs.Actions.{without_top, initializer_called, thread_with_initializer, applied_to, items_of}
use Rattle.jvms_machine.specs.Marks.{calls, calls_in, calls_of}
use Rattle.jvms_machine.proofs.ListLaws.{all_at, count_by_cons}
use Rattle.jvms_machine.proofs.SearchLaws.{find_passes, position_leads}
use Rattle.jvms_machine.proofs.InitialisationOrder.{order_over, count_call}
use Rattle.jvms_machine.proofs.MarkLaws.{unmarked_by, entered_mark, changed_calls}
use Rattle.jvms_machine.proofs.ThreadChanges.{Stands, frames_are_stack, thread_with_frames, changed_is_sound, moved_is_sound, stack_below, stack_begun}
use Rattle.jvms_machine.proofs.KeptStates.{Keeps, still}
use Rattle.jvms_machine.proofs.ExceptionSoundness.{throws_keeps}
use Rattle.jvms_machine.proofs.InitialisationSoundness.{class_use_keeps}
use Rattle.jvms_machine.proofs.CallSoundness.{entered_is_frame}

-- ---- <clinit>

-- The method of its number has its name.
initializer_is_named : (c : Class) (n : ℕ) (m : Method) → initializer_of c ≡ Some n → slice_get c.methods n ≡ Some m → same_text m.name (codes "<clinit>") ≡ true
initializer_is_named c n m number at =
    let test = λ (k : Method). same_text k.name (codes "<clinit>") && same_text k.descriptor (codes "()V") in
    let found = sym (position_leads test c.methods n number) ∙ at in
    (and_parts (same_text m.name (codes "<clinit>")) (same_text m.descriptor (codes "()V")) (find_passes test c.methods m found)).0

-- `<clinit>` isn't synchronized.
initializer_is_plain : (program : List Class) (class n : ℕ) (c : Class) → IsProgram program → slice_get program class ≡ Some c → initializer_of c ≡ Some n → is_synchronized_at program (record { class = class; method = n }) ≡ false
initializer_is_plain program class n c of_program is number =
    ap (λ (o : Option Class). unwrap_or (option_map (λ (m : Method). m.flags.is_synchronized) (option_and_then (λ (d : Class). slice_get d.methods n) o)) false) is
    ∙ plain_by (slice_get c.methods n) refl
  where
    plain_by : (o : Option Method) → slice_get c.methods n ≡ o → unwrap_or (option_map (λ (m : Method). m.flags.is_synchronized) o) false ≡ false
    plain_by None at = refl
    plain_by (Some m) at =
        let flags = all_at HasItsFlags c.methods n m at (all_at (λ (d : Class). AllByRecursion HasItsFlags d.methods) program class c is of_program.initializers) in
        ap (λ (f : MethodFlags). f.is_synchronized) (flags (initializer_is_named c n m number at))

-- ---- The turn

module _ (program : List Class) (limits : Limits) (start : Start) (s : State) (t : ℕ) (thread : Thread) where
  abbrev KeepsSound : TurnDecision → Type 0
  KeepsSound d = Keeps program limits start s t d

  abbrev HasFrames : List Frame → Type 0
  HasFrames frames = Stands program limits s t thread frames

  -- A class that is done.
  finishes_keeps : (class : ℕ) (called : Bool) (below : List Frame) → HasFrames (stack_frame.Initialisation class called ∷ below) → KeepsSound (decision.Applies (action.Finishes class))
  unfolding applied_to items_of
  finishes_keeps class called below stands =
      let frames = frames_are_stack stands in
      let below_is : (without_top thread).frames ≡ below = ap (λ (fs : List Frame). drop 1 fs) stands.frames_are in
      let fits : length below ≤ limits.frames = omega arith in (
        (λ _. changed_is_sound stands without_top (slice_set s.initialisations class initialisation.Done) s.result (refl, refl)
            (thread_with_frames stands (without_top thread) below below_is refl (refl, refl) frames.0.1 (stack_below program (stack_frame.Initialisation class called) below frames.1) fits)
            (length-set s.initialisations class initialisation.Done)
            (order_over s.threads s.initialisations t thread (without_top thread) stands.given_out stands.sound.initialised class called initialisation.Done (λ u. refl)
            (stands.frames_are ∙ ap (λ (fs : List Frame). stack_frame.Initialisation class called ∷ fs) (sym below_is)))
            stands.sound.result),
        (λ _ _. tt),
        unmarked_by program t (calls_of s t) _ (changed_calls s.threads t thread without_top stands.given_out ∙ ap (λ (fs : List Frame). calls (drop 1 fs)) stands.frames_are ∙ sym (ap calls stands.frames_are) ∙ sym (ap calls_in stands.given_out)),
        (λ _. tt),
      )

  -- The known facts about the `<clinit>` of a class.
  record IsInitializer (class n : ℕ) (c : Class) (body : Body) : Type 0 where
    pub class_is : slice_get program class ≡ Some c
    pub number : initializer_of c ≡ Some n
    pub body_is : option_and_then (λ (m : Method). m.body) (slice_get c.methods n) ≡ Some body
    pub room : length thread.frames < limits.frames

  -- The `<clinit>` is called.
  initialises_keeps : (class n : ℕ) (c : Class) (body : Body) (below : List Frame) → HasFrames (stack_frame.Initialisation class false ∷ below) → IsInitializer class n c body → KeepsSound (decision.Applies (action.Initialises (record { class = class; method = n }) body))
  unfolding applied_to items_of
  initialises_keeps class n c body below stands is =
      let method : MethodNumber = record { class = class; method = n } in
      let frame = frame_of_call method body None [] in
      let frames = frames_are_stack stands in
      let now = stack_frame.Call frame ∷ stack_frame.Initialisation class true ∷ below in
      let are : (thread_with_initializer frame thread).frames ≡ now = ap (λ (fs : List Frame). stack_frame.Call frame ∷ initializer_called fs) stands.frames_are in
      let there : length thread.frames ≡ length (stack_frame.Initialisation class false ∷ below) = ap length stands.frames_are in
      let room = is.room in
      let body_is = ap (λ (o : Option Class). option_and_then (λ (m : Method). m.body) (option_and_then (λ (d : Class). slice_get d.methods n) o)) is.class_is ∙ is.body_is in (
        (λ of_program. moved_is_sound stands (thread_with_initializer frame) now are refl (refl, refl)
            (entered_is_frame program s.heap method body None [] (omega arith) tt body_is tt (sym (initializer_is_plain program class n c of_program is.class_is is.number)), (frames.0.0, frames.0.1))
            ((refl, refl, c, is.class_is, is.number), stack_begun program class true below (stack_below program (stack_frame.Initialisation class false) below frames.1))
            (omega arith)
            (λ k. count_call k frame (stack_frame.Initialisation class true ∷ below)
            ∙ count_by_cons (is_initialisation_of k) (stack_frame.Initialisation class true) below
            ∙ sym (count_by_cons (is_initialisation_of k) (stack_frame.Initialisation class false) below))),
        (λ _ _. slice_get_within s.threads t thread stands.given_out),
        entered_mark program t (calls_of s t) _ method
            (changed_calls s.threads t thread (thread_with_initializer frame) stands.given_out ∙ ap calls are
            ∙ ap (λ (ms : List MethodNumber). method ∷ ms) (sym (ap calls_in stands.given_out ∙ ap calls stands.frames_are))),
        (λ _. tt),
      )

  initializer_call_keeps : (class n : ℕ) (c : Class) (below : List Frame) (o : Option Body) → HasFrames (stack_frame.Initialisation class false ∷ below) → slice_get program class ≡ Some c → initializer_of c ≡ Some n → option_and_then (λ (m : Method). m.body) (slice_get c.methods n) ≡ o → KeepsSound (initializer_call limits s thread (record { class = class; method = n }) o)
  initializer_call_keeps class n c below None stands is number body_is = still t stands.sound
  initializer_call_keeps class n c below (Some body) stands is number body_is =
      cond_both (nat_le limits.frames (length thread.frames)) _ _ KeepsSound
      (λ _. throws_keeps start stands thrown.StackOverflowError)
      (λ room. initialises_keeps class n c body below stands (record { class_is = is; number = number; body_is = body_is; room = leb-false limits.frames (length thread.frames) room }))

  initializer_keeps : (class : ℕ) (c : Class) (below : List Frame) (o : Option ℕ) → HasFrames (stack_frame.Initialisation class false ∷ below) → slice_get program class ≡ Some c → initializer_of c ≡ o → KeepsSound (initializer_decision limits s thread c class o)
  initializer_keeps class c below None stands is number = finishes_keeps class false below stands
  initializer_keeps class c below (Some n) stands is number = initializer_call_keeps class n c below _ stands is number refl

  superclass_keeps : {frames : List Frame} → HasFrames frames → (o : Option ℕ) (continued : TurnDecision) → KeepsSound continued → KeepsSound (superclass_decision program limits s t thread o continued)
  superclass_keeps stands None continued keeps = keeps
  superclass_keeps stands (Some super) continued keeps = class_use_keeps program limits start s t thread stands super continued keeps

  pub initialisation_keeps : (class : ℕ) (called : Bool) (below : List Frame) (o : Option Class) → HasFrames (stack_frame.Initialisation class called ∷ below) → slice_get program class ≡ o → KeepsSound (initialisation_decision program limits s t thread class called o)
  initialisation_keeps class called below None stands is = still t stands.sound
  initialisation_keeps class true below (Some c) stands is = finishes_keeps class true below stands
  initialisation_keeps class false below (Some c) stands is =
      superclass_keeps stands (asked_superclass program c) (initializer_decision limits s thread c class (initializer_of c))
      (initializer_keeps class c below (initializer_of c) stands is refl)
