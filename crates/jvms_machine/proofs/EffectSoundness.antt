-- An instruction that reaches beyond its frame keeps a state sound. Its effect must leave a sound state, and the value
-- for the frame must be one of that state.
use Rattle.std.proofs.Common.{◌≡◌, ℕ, ◌+◌, ◌-◌, ◌≤◌, true, nat_le, leb-true, List, [], ◌∷◌, ◌++◌, length, Option, None, Some, IfSome, IsTrue, slice_get, refl, sym, ap, ◌∙◌, subst, arith}
use Rattle.std.specs.List.{AllByRecursion, filter}
use Rattle.std.proofs.lemmas.Bool.{cond_both, and_parts}
use Rattle.jvms_machine.specs.declared.value.Value.{Value}
use Rattle.jvms_machine.specs.declared.value.Value.TheVariants as value
use Rattle.jvms_machine.specs.declared.machine.Limits.{Limits}
use Rattle.jvms_machine.specs.declared.state.StackFrame.TheVariants as stack_frame
use Rattle.jvms_machine.specs.declared.trace.Item.TheVariants as item
use Rattle.jvms_machine.specs.declared.trace.Variable.{Variable}
use Rattle.jvms_machine.specs.declared.action.FrameAction.{FrameAction}
use Rattle.jvms_machine.specs.declared.action.FrameAction.TheVariants as frame_action
use Rattle.jvms_machine.specs.declared.action.NewObject.{NewObject}
use Rattle.jvms_machine.specs.declared.action.Effect.{Effect}
use Rattle.jvms_machine.specs.declared.action.Effect.TheVariants as effect
use Rattle.jvms_machine.specs.declared.action.Action.TheVariants as action
use Rattle.jvms_machine.specs.declared.action.Decision.TheVariants as decision
use Rattle.jvms_program.specs.declared.program.Class.{Class}
use Rattle.jvms_program.specs.declared.key.FieldKey.{FieldKey}
use Rattle.jvms_program.specs.Program.{IsProgram, field_key_at}
use Rattle.jvms_machine.specs.Decisions.{TurnDecision}
use Rattle.jvms_machine.specs.State.{State, Thread, Frame, MethodFrame, new_thread, IsObject, IsValue, Sound}
use Rattle.jvms_machine.specs.Start.{Start}
use Rattle.jvms_machine.specs.Limits.{are_limits}
use Rattle.jvms_machine.specs.Activations.{HasRoom, has_depth}
use Rattle.jvms_machine.specs.Fields.{read_decision}
use Rattle.jvms_machine.specs.Heap.{next_reference}
use Rattle.jvms_machine.specs.Places.{value_size}
use Rattle.jvms_machine.specs.Arrays.{if_deep, creation_decision}
use Rattle.jvms_machine.specs.Actions.{frame_after_action, stack_after_action, thread_after_action, with_changed, event, instance_variable, static_variable, effect_items, put_field, put_static, new_objects, new_count, new_elements, after_effect, top_operands, operands_of, applied_to, items_of}
use Rattle.jvms_machine.specs.Marks.{is_mark, calls_in, calls_of}
use Rattle.jvms_machine.specs.Turn.{TopHasRoom, HasItsDimensions, CanBeMade}
use Rattle.jvms_machine.proofs.InitialisationOrder.{count_call}
use Rattle.jvms_machine.proofs.FrameSoundness.{IsFit, HasValue, applied_is_fit}
use Rattle.jvms_machine.proofs.LimitLaws.{limits_have_room}
use Rattle.jvms_machine.proofs.ListLaws.{appended_within}
use Rattle.jvms_machine.proofs.MarkLaws.{unmarked_by, changed_calls, gone_on_calls, acquire_is_no_mark, release_is_no_mark}
use Rattle.jvms_machine.proofs.ThreadChanges.{Stands, frames_are_stack, moved_is_sound, stack_goes_on}
use Rattle.jvms_machine.proofs.HeapGrowth.{grown_length, appended_is_sound}
use Rattle.jvms_machine.proofs.KeptStates.{IsHeardEffect, Keeps, still}

-- ---- The top call continues

-- The top call fits its code.
pub frame_is_fit : {program : List Class} {limits : Limits} {s : State} {t : ℕ} {thread : Thread} (frame : MethodFrame) (below : List Frame) → Stands program limits s t thread (stack_frame.Call frame ∷ below) → IsFit s.heap frame.body frame.activation
frame_is_fit frame below stands =
    let is = (frames_are_stack stands).0.0 in
    record { locals_fit = is.1.0; operands_fit = is.1.1; locals = is.2; operands = is.3 }

-- The state is sound after the top call has continued with values.
pub gone_on_is_sound : {program : List Class} {limits : Limits} {s : State} {t : ℕ} {thread : Thread} (frame : MethodFrame) (below : List Frame) (act : FrameAction) → Stands program limits s t thread (stack_frame.Call frame ∷ below) → HasRoom frame.body frame.activation act → HasValue s.heap act → Sound program limits (with_changed s t (thread_after_action act))
gone_on_is_sound {program = program} {s = s} {thread = thread} frame below act stands room value =
    let frames = frames_are_stack stands in
    let fit = applied_is_fit s.heap frame.body frame.activation (frame_is_fit frame below stands) act room value in
    let now = stack_frame.Call (frame_after_action act frame) ∷ below in
    let are : (thread_after_action act thread).frames ≡ now = ap (stack_after_action act) stands.frames_are in
    moved_is_sound stands (thread_after_action act) now are refl (refl, refl)
    ((frames.0.0.0, (fit.locals_fit, fit.operands_fit), fit.locals, fit.operands, frames.0.0.4, frames.0.0.5), frames.0.1)
    (stack_goes_on program frame (frame_after_action act frame).activation below frames.1)
    frames.2
    (λ c. count_call c (frame_after_action act frame) below ∙ sym (count_call c frame below))

-- ---- The state after an effect

put_field_threads : (s : State) (r : ℕ) (v : Value) (o : Option FieldKey) → (put_field s r v o).threads ≡ s.threads
put_field_threads s r v None = refl
put_field_threads s r v (Some key) = refl

put_static_threads : (s : State) (v : Value) (o : Option FieldKey) → (put_static s v o).threads ≡ s.threads
put_static_threads s v None = refl
put_static_threads s v (Some key) = refl

-- No started thread is changed.
pub affected_thread : (program : List Class) (s : State) (t : ℕ) (operands : List Value) (what : Effect (List ℕ)) (u : ℕ) (thread : Thread) → slice_get s.threads u ≡ Some thread → slice_get (after_effect program s t operands what).threads u ≡ Some thread
affected_thread program s t operands effect.Nothing u thread at = at
affected_thread program s t operands (effect.GetField r n) u thread at = at
affected_thread program s t operands (effect.PutField r n v) u thread at = ap (λ (ts : List Thread). slice_get ts u) (put_field_threads s r v (field_key_at program n)) ∙ at
affected_thread program s t operands (effect.GetStatic n) u thread at = at
affected_thread program s t operands (effect.PutStatic n v) u thread at = ap (λ (ts : List Thread). slice_get ts u) (put_static_threads s v (field_key_at program n)) ∙ at
affected_thread program s t operands (effect.LoadElement r i) u thread at = at
affected_thread program s t operands (effect.StoreElement r i v) u thread at = at
affected_thread program s t operands (effect.Creates what) u thread at = at
affected_thread program s t operands (effect.Prints what ends_line) u thread at = at
affected_thread program s t operands (effect.Locks monitor) u thread at = at
affected_thread program s t operands (effect.Unlocks monitor) u thread at = at
affected_thread program s t operands (effect.Starts r v) u thread at = appended_within s.threads (new_thread (Some r) ∷ []) u thread at
affected_thread program s t operands (effect.Joins v) u thread at = at
affected_thread program s t operands (effect.Notifies r all) u thread at = at

-- An event is no mark.
read_is_no_mark : (t : ℕ) (o : Option Variable) → filter is_mark (event (λ v. item.Read t v) o) ≡ []
read_is_no_mark t None = refl
read_is_no_mark t (Some v) = refl

write_is_no_mark : (t : ℕ) (o : Option Variable) → filter is_mark (event (λ v. item.Write t v) o) ≡ []
write_is_no_mark t None = refl
write_is_no_mark t (Some v) = refl

effect_is_no_mark : (program : List Class) (t : ℕ) (what : Effect (List ℕ)) → filter is_mark (effect_items program t what) ≡ []
effect_is_no_mark program t effect.Nothing = refl
effect_is_no_mark program t (effect.GetField r n) = read_is_no_mark t (instance_variable program r n)
effect_is_no_mark program t (effect.PutField r n v) = write_is_no_mark t (instance_variable program r n)
effect_is_no_mark program t (effect.GetStatic n) = read_is_no_mark t (static_variable program n)
effect_is_no_mark program t (effect.PutStatic n v) = write_is_no_mark t (static_variable program n)
effect_is_no_mark program t (effect.LoadElement r i) = refl
effect_is_no_mark program t (effect.StoreElement r i v) = refl
effect_is_no_mark program t (effect.Creates what) = refl
effect_is_no_mark program t (effect.Prints what ends_line) = refl
effect_is_no_mark program t (effect.Locks monitor) = acquire_is_no_mark t monitor
effect_is_no_mark program t (effect.Unlocks monitor) = release_is_no_mark t monitor
effect_is_no_mark program t (effect.Starts r u) = refl
effect_is_no_mark program t (effect.Joins u) = refl
effect_is_no_mark program t (effect.Notifies r all) = refl

-- ---- The depth

-- The result of a test of the depth.
pub record HasDepth (frame : MethodFrame) (takes gives : ℕ) : Type 0 where
  pub there : takes ≤ length frame.activation.operands
  pub room : length frame.activation.operands - takes + gives ≤ frame.body.max_stack

pub depth_is : (frame : MethodFrame) (takes gives : ℕ) → has_depth frame.body takes gives frame.activation ≡ true → HasDepth frame takes gives
depth_is frame takes gives is =
    let there = nat_le takes (length frame.activation.operands) in
    let room = nat_le (length frame.activation.operands - takes + gives) frame.body.max_stack in
    let both = and_parts there room is in
    record {
      there = leb-true takes (length frame.activation.operands) both.0;
      room = leb-true (length frame.activation.operands - takes + gives) frame.body.max_stack both.1;
    }

-- ---- The turn

-- The known facts about an instruction of the top call with this effect: the state after the effect is sound, and the
-- frame has room for the new value.
pub record IsMade (program : List Class) (limits : Limits) (s : State) (t : ℕ) (frame : MethodFrame) (what : Effect (List ℕ)) (act : FrameAction) : Type 0 where
  pub sound : Sound program limits (after_effect program s t frame.activation.operands what)
  pub room : HasRoom frame.body frame.activation act
  pub value : HasValue (after_effect program s t frame.activation.operands what).heap act
  pub heard : IsHeardEffect s what
  pub can_be_made : IsTrue (are_limits limits) → CanBeMade s frame.activation.operands what

module _ (program : List Class) (limits : Limits) (start : Start) (s : State) (t : ℕ) (thread : Thread) (frame : MethodFrame) (below : List Frame) (stands : Stands program limits s t thread (stack_frame.Call frame ∷ below)) where
  abbrev KeepsSound : TurnDecision → Type 0
  KeepsSound d = Keeps program limits start s t d

  -- The operands of the top call.
  operands_are : operands_of (slice_get s.threads t) ≡ frame.activation.operands
  operands_are = ap operands_of stands.given_out ∙ ap top_operands stands.frames_are

  -- The thread has the same frames after the effect.
  stands_after : (what : Effect (List ℕ)) → Sound program limits (after_effect program s t frame.activation.operands what) → Stands program limits (after_effect program s t frame.activation.operands what) t thread (stack_frame.Call frame ∷ below)
  stands_after what sound =
      record { sound = sound; given_out = affected_thread program s t frame.activation.operands what t thread stands.given_out; awake = stands.awake; frames_are = stands.frames_are }

  -- The thread has the same calls after the effect.
  calls_after : (what : Effect (List ℕ)) (act : FrameAction) (operands : List Value) → calls_of (with_changed (after_effect program s t operands what) t (thread_after_action act)) t ≡ calls_of s t
  calls_after what act operands =
      let given_out = affected_thread program s t operands what t thread stands.given_out in
      changed_calls (after_effect program s t operands what).threads t thread (thread_after_action act) given_out ∙ gone_on_calls act thread.frames ∙ sym (ap calls_in stands.given_out)

  pub reaches_keeps : (what : Effect (List ℕ)) (act : FrameAction) → (IsProgram program → IsMade program limits s t frame what act) → KeepsSound (decision.Applies (action.Reaches what act))
  unfolding applied_to items_of
  reaches_keeps what act made = (
    (λ of_program.
        let is = made of_program in
        subst (λ operands. Sound program limits (with_changed (after_effect program s t operands what) t (thread_after_action act))) (sym operands_are)
        (gone_on_is_sound frame below act (stands_after what is.sound) is.room is.value)),
    (λ of_program are.
        let is = made of_program in
        (thread, stands.given_out, subst (TopHasRoom act) (sym stands.frames_are) is.room, subst (λ fs. CanBeMade s (top_operands fs) what) (sym stands.frames_are) (is.can_be_made are))),
    effect_is_no_mark program t what ∙ unmarked_by program t (calls_of s t) _ (calls_after what act (operands_of (slice_get s.threads t))),
    (λ of_program. (made of_program).heard),
  )

  pub if_deep_keeps : (takes gives : ℕ) (rest : TurnDecision) → (HasDepth frame takes gives → KeepsSound rest) → KeepsSound (if_deep frame takes gives rest)
  if_deep_keeps takes gives rest keeps =
      cond_both (has_depth frame.body takes gives frame.activation) rest _ KeepsSound (λ deep. keeps (depth_is frame takes gives deep)) (λ _. still t stands.sound)

  -- ---- Values that are read

  pub read_keeps : (what : Effect (List ℕ)) (takes : ℕ) (o : Option Value) → Sound program limits (after_effect program s t frame.activation.operands what) → IfSome o (IsValue (after_effect program s t frame.activation.operands what).heap) → IsHeardEffect s what → CanBeMade s frame.activation.operands what → KeepsSound (read_decision frame what takes o)
  read_keeps what takes None sound is heard can = still t stands.sound
  read_keeps what takes (Some v) sound is heard can =
      cond_both (has_depth frame.body takes (value_size v) frame.activation) _ _ KeepsSound
      (λ deep.
      let depth = depth_is frame takes (value_size v) deep in
      reaches_keeps what (frame_action.Push takes v) (λ _. record { sound = sound; room = (depth.there, depth.room); value = is; heard = heard; can_be_made = λ _. can }))
      (λ _. still t stands.sound)

  -- ---- New objects

  -- The state with new objects is sound if they are objects and there is room for them. Nested arrays have their
  -- dimensions.
  pub creation_keeps : (takes : ℕ) (what : NewObject (List ℕ)) → HasDepth frame takes 1 → length (new_objects program (next_reference s.heap) frame.activation.operands what) ≡ new_count frame.activation.operands what → AllByRecursion (IsObject program (s.heap ++ new_objects program (next_reference s.heap) frame.activation.operands what)) (new_objects program (next_reference s.heap) frame.activation.operands what) → length s.heap + new_count frame.activation.operands what ≤ limits.objects → s.elements + new_elements frame.activation.operands what ≤ limits.elements → (IsProgram program → 1 ≤ new_count frame.activation.operands what) → HasItsDimensions frame.activation.operands what → KeepsSound (creation_decision s takes what)
  creation_keeps takes what depth count are objects elements some has_dimensions =
      let operands = frame.activation.operands in
      let new = new_objects program (next_reference s.heap) operands what in
      let longer = grown_length s.heap new in
      reaches_keeps (effect.Creates what) (frame_action.Push takes (value.Reference (next_reference s.heap)))
      (λ of_program.
      let one = some of_program in
      record {
        sound = appended_is_sound stands.sound new (s.elements + new_elements operands what) are (subst (λ n. length s.heap + n ≤ limits.objects) (sym count) objects) elements;
        room = (depth.there, depth.room);
        value = (omega arith, omega arith);
        heard = tt;
        can_be_made = λ limited. let room = limits_have_room limits limited in (omega (arith, room.few_objects), omega (arith, room.few_elements), has_dimensions);
      })
