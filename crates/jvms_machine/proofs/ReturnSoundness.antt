-- A turn of a return keeps a sound state sound. The thread ends, or its caller continues with the result, for which it
-- has room.
use Rattle.std.proofs.Common.{◌≡◌, ℕ, ◌+◌, ◌≤◌, true, ◌==◌, nat_le, List, [], ◌∷◌, length, drop, Option, Some, None, IfSome, slice_get, count_by, refl, sym, ap, ◌∙◌, subst, arith}
use Rattle.std.specs.List.{AllByRecursion}
use Rattle.std.proofs.lemmas.Bool.{cond_both}
use Rattle.std.proofs.lemmas.Option.{same_Some, slice_get_within}
use Rattle.jvms_machine.specs.declared.value.Value.{Value}
use Rattle.jvms_machine.specs.declared.machine.Limits.{Limits}
use Rattle.jvms_machine.specs.declared.state.StackFrame.TheVariants as stack_frame
use Rattle.jvms_machine.specs.declared.action.MonitorUse.{MonitorUse}
use Rattle.jvms_machine.specs.declared.action.Action.TheVariants as action
use Rattle.jvms_machine.specs.declared.action.Decision.TheVariants as decision
use Rattle.jvms_file.specs.declared.descriptor.ResultType.{ResultType}
use Rattle.jvms_file.specs.declared.descriptor.ResultType.TheVariants as result_type
use Rattle.jvms_file.specs.declared.insn.Kind.{Kind}
use Rattle.jvms_file.specs.declared.insn.Kind.TheVariants as kind
use Rattle.jvms_file.specs.declared.insn.ReturnInsn.{ReturnInsn}
use Rattle.jvms_file.specs.declared.insn.ReturnInsn.TheVariants as returns
use Rattle.jvms_program.specs.declared.number.MethodNumber.{MethodNumber}
use Rattle.jvms_program.specs.declared.program.Class.{Class}
use Rattle.jvms_program.specs.declared.program.Method.{Method}
use Rattle.jvms_program.specs.Program.{method_at}
use Rattle.jvms_machine.specs.Decisions.{TurnDecision}
use Rattle.jvms_machine.specs.State.{State, Object, Thread, Frame, MethodFrame, IsValue, IsFrame, IsStack, IsWait, IsDirectlyAbove, result_length, is_initialisation_of, Sound}
use Rattle.jvms_machine.specs.Start.{Start}
use Rattle.jvms_machine.specs.Locals.{is_profile_kind}
use Rattle.jvms_machine.specs.Places.{kind_of_type, kind_size, top_value, value_size}
use Rattle.jvms_machine.specs.Returns.{gives_kind, gives_nothing, method_return_decision, return_decision, return_top_decision, return_value_decision, returned_decision, returns_to, same_kind}
use Rattle.jvms_machine.specs.Actions.{with_unlock, changed_to, after_end, with_returned, frame_after_return, stack_after_return, after_return, with_changed, applied_to, items_of}
use Rattle.jvms_machine.specs.Marks.{calls, calls_in, calls_of}
use Rattle.jvms_machine.specs.Turn.{HasRoomFor}
use Rattle.jvms_machine.proofs.InitialisationOrder.{order_with_thread, count_call}
use Rattle.jvms_machine.proofs.MarkLaws.{left_mark, marked_with_unlock, changed_calls, returned_calls, result_calls}
use Rattle.jvms_machine.proofs.ThreadChanges.{Stands, thread_is, frames_are_stack, changed_is_sound, moved_is_sound, stack_goes_on}
use Rattle.jvms_machine.proofs.KeptStates.{IsLeft, Keeps, still}
use Rattle.jvms_machine.proofs.LockSoundness.{stands_with_unlock, unlocked_heap}
use Rattle.jvms_machine.proofs.UnlockSoundness.{frame_unlocking_keeps}
use Rattle.jvms_machine.proofs.PlaceLaws.{IsWhole, put_length, put_values, top_is_whole, type_units}

-- ---- The caller of a returning call

-- A result has the size of the method's result type.
abbrev IsResultOf : ResultType → Option Value → Type 0
IsResultOf type None = Unit {0}
IsResultOf type (Some v) = result_length type ≡ value_size v

same_size : (k other : Kind) → same_kind k other ≡ true → kind_size k ≡ kind_size other
same_size kind.Int kind.Int is = refl
same_size kind.Long kind.Long is = refl
same_size kind.Float kind.Float is = refl
same_size kind.Double kind.Double is = refl
same_size kind.Reference kind.Reference is = refl
same_size k other is = cc

gives_size : (type : ResultType) (k : Kind) → gives_kind type k ≡ true → result_length type ≡ kind_size k
gives_size result_type.Void k gives = absurd (cc)
gives_size (result_type.Value t) k gives = sym (type_units t) ∙ same_size (kind_of_type t) k gives

-- The caller has room for the result.
has_room_for_result : (program : List Class) (frame : MethodFrame) (m : Method) (result : Option Value) (f : Frame) (below : List Frame) → method_at program frame.method ≡ Some m → IsResultOf m.method_type.result result → IsDirectlyAbove program (stack_frame.Call frame) f → HasRoomFor result (f ∷ below)
has_room_for_result program frame m None f below m_is gives on = tt
has_room_for_result program frame m (Some v) (stack_frame.Initialisation class called) below m_is gives on = tt
has_room_for_result program frame m (Some v) (stack_frame.Call lower) below m_is gives on =
    let same : on.0 ≡ m = same_Some on.0 m (sym on.1 ∙ m_is) in
    let its_size : result_length on.0.method_type.result ≡ value_size v = ap (λ (k : Method). result_length k.method_type.result) same ∙ gives in
    let room : length lower.activation.operands + result_length on.0.method_type.result ≤ lower.body.max_stack = on.2.3 in
    omega arith

-- The caller with the result as its topmost operand is a frame.
returned_operands : (heap : List Object) (result : Option Value) (lower : MethodFrame) (below : List Frame) → HasRoomFor result (stack_frame.Call lower ∷ below) → length lower.activation.operands ≤ lower.body.max_stack → IfSome result (IsValue heap) → AllByRecursion (IsValue heap) lower.activation.operands → (length (with_returned result lower.activation.operands) ≤ lower.body.max_stack) × AllByRecursion (IsValue heap) (with_returned result lower.activation.operands)
returned_operands heap None lower below room few is values = (few, values)
returned_operands heap (Some v) lower below room few is values =
    (subst (λ n. n ≤ lower.body.max_stack) (sym (put_length v lower.activation.operands)) room, put_values heap v lower.activation.operands is values)

pub returned_frames : (program : List Class) (heap : List Object) (result : Option Value) (f : Frame) (below : List Frame) → HasRoomFor result (f ∷ below) → IfSome result (IsValue heap) → AllByRecursion (IsFrame program heap) (f ∷ below) → AllByRecursion (IsFrame program heap) (stack_after_return result (f ∷ below))
returned_frames program heap result (stack_frame.Initialisation class called) below room is all = all
returned_frames program heap result (stack_frame.Call lower) below room is all =
    let operands = returned_operands heap result lower below room all.0.1.1 is all.0.3 in
    ((all.0.0, (all.0.1.0, operands.0), all.0.2, operands.1, all.0.4, all.0.5), all.1)

-- The stack stays a stack when the caller continues.
pub returned_stack : (program : List Class) (result : Option Value) (frames : List Frame) → IsStack program frames → IsStack program (stack_after_return result frames)
returned_stack program result [] stack = stack
returned_stack program result (stack_frame.Initialisation class called ∷ below) stack = stack
returned_stack program result (stack_frame.Call lower ∷ below) stack = stack_goes_on program lower (frame_after_return result lower).activation below stack

pub returned_length : (result : Option Value) (frames : List Frame) → length (stack_after_return result frames) ≡ length frames
returned_length result [] = refl
returned_length result (stack_frame.Initialisation class called ∷ below) = refl
returned_length result (stack_frame.Call lower ∷ below) = refl

pub returned_count : (result : Option Value) (c : ℕ) (frames : List Frame) → count_by (is_initialisation_of c) (stack_after_return result frames) ≡ count_by (is_initialisation_of c) frames
returned_count result c [] = refl
returned_count result c (stack_frame.Initialisation class called ∷ below) = refl
returned_count result c (stack_frame.Call lower ∷ below) = count_call c (frame_after_return result lower) below ∙ sym (count_call c lower below)

-- ---- The turn

module _ (program : List Class) (limits : Limits) (start : Start) (s : State) (t : ℕ) (thread : Thread) where
  abbrev KeepsSound : TurnDecision → Type 0
  KeepsSound d = Keeps program limits start s t d

  abbrev HasFrames : List Frame → Type 0
  HasFrames frames = Stands program limits s t thread frames

  -- The thread ends, with a result that is a value.
  ended_is_sound : (made : State) (frame : MethodFrame) (result : Option Value) → Stands program limits made t thread (stack_frame.Call frame ∷ []) → IfSome result (IsValue made.heap) → Sound program limits (record made { threads = changed_to made.threads t after_end (slice_get made.threads t); result = result })
  ended_is_sound made frame result stands result_is =
      let was = thread_is stands in
      changed_is_sound stands after_end made.initialisations result (refl, refl)
      (tt, tt, omega arith, was.3, was.4, subst (λ o. IfSome o (IsWait made.heap (after_end thread))) (sym stands.awake) tt)
      refl
      (order_with_thread made.threads made.initialisations t thread (after_end thread) stands.given_out stands.sound.initialised
      (λ c. sym (count_call c frame []) ∙ sym (ap (count_by (is_initialisation_of c)) stands.frames_are)))
      result_is

  ends_keeps : (frame : MethodFrame) (result : Option Value) → HasFrames (stack_frame.Call frame ∷ []) → IfSome result (IsValue s.heap) → (unlock : Option MonitorUse) → IfSome unlock (IsLeft s) → KeepsSound (decision.Applies (action.Ends frame.method result unlock))
  unfolding applied_to items_of
  ends_keeps frame result stands result_is unlock is_left =
      let made = with_unlock s unlock in
      let there = stands_with_unlock stands unlock in
      let result_there : IfSome result (IsValue made.heap) = subst (λ heap. IfSome result (IsValue heap)) (sym (unlocked_heap s unlock)) result_is in (
        (λ _. cond_both (t == 0) _ _ (Sound program limits) (λ _. ended_is_sound made frame result there result_there) (λ _. ended_is_sound made frame made.result there there.sound.result)),
        (λ _ _. tt),
        marked_with_unlock program t frame.method unlock ∙ left_mark program t (calls_of s t) _ frame.method
            (ap calls_in stands.given_out ∙ ap calls stands.frames_are
            ∙ ap (λ (ms : List MethodNumber). frame.method ∷ ms) (sym (result_calls (with_changed made t after_end) t result ∙ changed_calls made.threads t thread after_end there.given_out))),
        (λ _. is_left),
      )

  -- The caller continues.
  returns_keeps : (frame : MethodFrame) (f : Frame) (below : List Frame) (result : Option Value) → HasFrames (stack_frame.Call frame ∷ f ∷ below) → IfSome result (IsValue s.heap) → HasRoomFor result (f ∷ below) → (unlock : Option MonitorUse) → IfSome unlock (IsLeft s) → KeepsSound (decision.Applies (action.Returns frame.method result unlock))
  unfolding applied_to items_of
  returns_keeps frame f below result stands result_is room unlock is_left =
      let made = with_unlock s unlock in
      let there = stands_with_unlock stands unlock in
      let result_there : IfSome result (IsValue made.heap) = subst (λ heap. IfSome result (IsValue heap)) (sym (unlocked_heap s unlock)) result_is in
      let frames = frames_are_stack there in
      let now = stack_after_return result (f ∷ below) in
      let are : (after_return result thread).frames ≡ now = ap (λ (fs : List Frame). stack_after_return result (drop 1 fs)) stands.frames_are in
      let as_many : length now ≡ length (f ∷ below) = returned_length result (f ∷ below) in
      let few = frames.2 in (
        (λ _. moved_is_sound there (after_return result) now are refl (refl, refl)
            (returned_frames program made.heap result f below room result_there frames.0.1)
            (returned_stack program result (f ∷ below) frames.1.1)
            (omega arith)
            (λ c. returned_count result c (f ∷ below) ∙ sym (count_call c frame (f ∷ below)))),
        (λ _ _. (slice_get_within s.threads t thread stands.given_out, subst (λ o. IfSome o (λ (th : Thread). HasRoomFor result (drop 1 th.frames))) (sym stands.given_out) (subst (λ (fs : List Frame). HasRoomFor result (drop 1 fs)) (sym stands.frames_are) room))),
        marked_with_unlock program t frame.method unlock ∙ left_mark program t (calls_of s t) _ frame.method
            (ap calls_in stands.given_out ∙ ap calls stands.frames_are
            ∙ ap (λ (ms : List MethodNumber). frame.method ∷ ms) (sym (changed_calls made.threads t thread (after_return result) there.given_out ∙ ap calls are ∙ returned_calls result (f ∷ below)))),
        (λ _. is_left),
      )

  returns_to_keeps : (frame : MethodFrame) (below : List Frame) (m : Method) (result : Option Value) → HasFrames (stack_frame.Call frame ∷ below) → method_at program frame.method ≡ Some m → IsResultOf m.method_type.result result → IfSome result (IsValue s.heap) → (unlock : Option MonitorUse) → IfSome unlock (IsLeft s) → KeepsSound (returns_to frame.method below result unlock)
  returns_to_keeps frame [] m result stands m_is gives result_is unlock is_left = ends_keeps frame result stands result_is unlock is_left
  returns_to_keeps frame (f ∷ below) m result stands m_is gives result_is unlock is_left =
      returns_keeps frame f below result stands result_is (has_room_for_result program frame m result f below m_is gives (frames_are_stack stands).1.0) unlock is_left

  returned_keeps : (frame : MethodFrame) (below : List Frame) (m : Method) (result : Option Value) → HasFrames (stack_frame.Call frame ∷ below) → method_at program frame.method ≡ Some m → IsResultOf m.method_type.result result → IfSome result (IsValue s.heap) → KeepsSound (returned_decision limits s t frame below result)
  returned_keeps frame below m result stands m_is gives result_is =
      frame_unlocking_keeps program limits start s t thread frame below stands _ (λ unlock is_left. returns_to_keeps frame below m result stands m_is gives result_is unlock is_left)

  return_value_keeps : (frame : MethodFrame) (below : List Frame) (m : Method) (k : Kind) (o : Option Value) → HasFrames (stack_frame.Call frame ∷ below) → method_at program frame.method ≡ Some m → IsWhole s.heap k o → KeepsSound (return_value_decision limits s t frame below m.method_type.result k o)
  return_value_keeps frame below m k None stands m_is whole = still t stands.sound
  return_value_keeps frame below m k (Some v) stands m_is whole =
      cond_both (gives_kind m.method_type.result k) _ _ KeepsSound
      (λ gives. returned_keeps frame below m (Some v) stands m_is (gives_size m.method_type.result k gives ∙ sym whole.1) whole.0)
      (λ _. still t stands.sound)

  return_top_keeps : (frame : MethodFrame) (below : List Frame) (m : Method) (k : Kind) → HasFrames (stack_frame.Call frame ∷ below) → method_at program frame.method ≡ Some m → AllByRecursion (IsValue s.heap) frame.activation.operands → KeepsSound (return_top_decision limits s t frame below m.method_type.result k)
  return_top_keeps frame below m k stands m_is values =
      cond_both (nat_le (kind_size k) (length frame.activation.operands)) _ _ KeepsSound
      (λ _. return_value_keeps frame below m k (top_value k frame.activation.operands) stands m_is (top_is_whole s.heap k frame.activation.operands values))
      (λ _. still t stands.sound)

  return_keeps : (frame : MethodFrame) (below : List Frame) (m : Method) (how : ReturnInsn) → HasFrames (stack_frame.Call frame ∷ below) → method_at program frame.method ≡ Some m → AllByRecursion (IsValue s.heap) frame.activation.operands → KeepsSound (return_decision limits s t frame below m.method_type.result how)
  return_keeps frame below m returns.Void stands m_is values =
      cond_both (gives_nothing m.method_type.result) _ _ KeepsSound (λ _. returned_keeps frame below m None stands m_is tt tt) (λ _. still t stands.sound)
  return_keeps frame below m (returns.Value k) stands m_is values =
      cond_both (is_profile_kind k) _ _ KeepsSound (λ _. return_top_keeps frame below m k stands m_is values) (λ _. still t stands.sound)

  pub method_return_keeps : (frame : MethodFrame) (below : List Frame) (how : ReturnInsn) (o : Option Method) → HasFrames (stack_frame.Call frame ∷ below) → method_at program frame.method ≡ o → AllByRecursion (IsValue s.heap) frame.activation.operands → KeepsSound (method_return_decision limits s t frame below how o)
  method_return_keeps frame below how None stands m_is values = still t stands.sound
  method_return_keeps frame below how (Some m) stands m_is values = return_keeps frame below m how stands m_is values
