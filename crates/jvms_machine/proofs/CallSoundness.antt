-- A turn of a call keeps a sound state sound. The new frame is one of the called method, has operands of its caller as
-- arguments, and is directly above its caller.
use Rattle.std.proofs.Common.{◌≡◌, ℕ, ◌-◌, ◌<◌, ◌≤◌, true, false, not, ◌==◌, nat_le, nat_lt, leb-false, ltb-false, eqb, eq-eqb, List, [], ◌∷◌, ◌++◌, length, replicate, reverse, take, Option, Some, None, IfSome, IsTrue, slice_get, option_and_then, option_map, unwrap_or, refl, sym, ap, ◌∙◌, subst, arith, length-drop, is_some}
use Rattle.std.specs.Prelude.{Result, Ok, Err}
use Rattle.std.specs.List.{AllByRecursion}
use Rattle.std.proofs.lemmas.Bool.{cond_both, eqb-true, and_from, not-false}
use Rattle.std.proofs.lemmas.Option.{slice_get_within}
use Rattle.std.proofs.lemmas.List.{length-append, length-replicate, length-reverse, length-take-le}
use Rattle.jvms_machine.specs.declared.value.Value.{Value}
use Rattle.jvms_machine.specs.declared.value.Value.TheVariants as value
use Rattle.jvms_machine.specs.declared.machine.Limits.{Limits}
use Rattle.jvms_machine.specs.declared.state.StackFrame.TheVariants as stack_frame
use Rattle.jvms_machine.specs.declared.action.Action.TheVariants as action
use Rattle.jvms_machine.specs.declared.action.Lock.{Lock}
use Rattle.jvms_machine.specs.declared.action.Decision.TheVariants as decision
use Rattle.jvms_file.specs.declared.insn.Invoke.{Invoke}
use Rattle.jvms_file.specs.declared.insn.Invoke.TheVariants as invoke
use Rattle.jvms_file.specs.declared.descriptor.MethodType.{MethodType}
use Rattle.jvms_file.specs.Names.{same_text}
use Rattle.jvms_program.specs.declared.number.MethodNumber.{MethodNumber}
use Rattle.jvms_program.specs.declared.thrown.Thrown.{Thrown}
use Rattle.jvms_program.specs.declared.thrown.Thrown.TheVariants as thrown
use Rattle.jvms_program.specs.declared.program.Class.{Class}
use Rattle.jvms_program.specs.declared.program.Method.{Method}
use Rattle.jvms_program.specs.declared.program.Body.{Body}
use Rattle.jvms_program.specs.declared.program.MethodReference.{MethodReference}
use Rattle.jvms_program.specs.declared.program.Instruction.TheVariants as instruction
use Rattle.jvms_program.specs.Program.{IsProgram, method_at}
use Rattle.jvms_program.specs.Resolution.{ResolvedMethod, fits, resolved_method, method_number, is_static_call}
use Rattle.jvms_machine.specs.Decisions.{TurnDecision}
use Rattle.jvms_machine.specs.State.{State, Object, Thread, Frame, MethodFrame, object_at, class_of, IsReference, IsValue, body_at, is_synchronized_at, IsFrame, IsDirectlyAbove, result_length}
use Rattle.jvms_machine.specs.Start.{Start, IsArgument, IsStart}
use Rattle.jvms_machine.specs.Activations.{has_depth}
use Rattle.jvms_machine.specs.Steps.{instruction_at}
use Rattle.jvms_machine.specs.Profile.{is_outside_method}
use Rattle.jvms_machine.specs.Calls.{frame_of_call, enter_decision, with_body, called_decision, first_call, entry_decision, run_of_class, selected_run, run_of_object, run_decision, first_call_decision, slots_of_call, receiver_of, are_of_call, with_method, call_decision, static_call_decision, selected_method, selected_decision, wrong_receiver, object_call_decision, receiver_call_decision, resolved_call_decision, invoke_decision}
use Rattle.jvms_machine.specs.Monitors.{locked_reference}
use Rattle.jvms_machine.specs.Actions.{with_lock, first_arguments, first_called, without_arguments, stack_without_operands, thread_with_call, top_operands, arguments_of, applied_to, items_of}
use Rattle.jvms_machine.specs.Marks.{calls_in, calls_of}
use Rattle.jvms_machine.proofs.ListLaws.{all_weaker, all_append, all_replicate, all_take, all_reverse}
use Rattle.jvms_machine.proofs.InitialisationOrder.{count_call}
use Rattle.jvms_machine.proofs.MarkLaws.{entered_mark, marked_with_lock, changed_calls, given_calls}
use Rattle.jvms_machine.proofs.ThreadChanges.{IsQuiet, Stands, thread_is, frames_are_stack, given_is_frame, moved_is_sound, stack_goes_on}
use Rattle.jvms_machine.proofs.KeptStates.{Keeps, still}
use Rattle.jvms_machine.proofs.ExceptionSoundness.{throws_keeps}
use Rattle.jvms_machine.proofs.HeapGrowth.{values_grow}
use Rattle.jvms_machine.proofs.StoredValues.{leads_is_reference}
use Rattle.jvms_machine.proofs.LockSoundness.{IsLocked, locked_is_reference, locked_grows, can_be_locked, stands_with_lock, call_locking_keeps}
use Rattle.jvms_machine.proofs.InitialisationSoundness.{class_use_keeps}
use Rattle.jvms_machine.proofs.CallDescriptors.{IsFound, resolved_is_found, selected_is_found, numbered_has_descriptor, called_has_type}
use Rattle.jvms_machine.proofs.EffectSoundness.{HasDepth, depth_is}
use Rattle.jvms_machine.proofs.NativeSoundness.{native_keeps}

-- ---- The frame of a call

-- An argument of an entry is a value in a heap with the objects of the opening.
argument_is_value : (heap : List Object) → 4 ≤ length heap → (v : Value) → IsArgument v → IsValue heap v
argument_is_value heap opened (value.Reference r) is = (is.0, omega arith)
argument_is_value heap opened _ is = tt

-- A call entered with arguments that fit its local variables is a frame, if it holds a monitor if and only if its
-- method is synchronized.
pub entered_is_frame : (program : List Class) (heap : List Object) (method : MethodNumber) (body : Body) (monitor : Option ℕ) (arguments : List Value) → length arguments ≤ body.max_locals → AllByRecursion (IsValue heap) arguments → body_at program method ≡ Some body → IfSome monitor (IsReference heap) → is_some monitor ≡ is_synchronized_at program method → IsFrame program heap (stack_frame.Call (frame_of_call method body monitor arguments))
entered_is_frame program heap method body monitor arguments few values body_is held flag =
    let unset : List Value = replicate (body.max_locals - length arguments) value.Unset in
    let as_many : length (arguments ++ unset) ≡ body.max_locals = omega (arith, length-append arguments unset, length-replicate (body.max_locals - length arguments) value.Unset) in
    (body_is, (as_many, omega arith), all_append (IsValue heap) arguments unset values (all_replicate (IsValue heap) (body.max_locals - length arguments) value.Unset tt), tt, held, flag)

-- The code of a number is that of the method of the number.
body_of : (program : List Class) (method : MethodNumber) (m : Method) (body : Body) → method_at program method ≡ Some m → m.body ≡ Some body → body_at program method ≡ Some body
body_of program method m body m_is body_is = ap (option_and_then (λ (n : Method). n.body)) m_is ∙ body_is

-- The flag of a number is that of the method of the number.
flag_of : (program : List Class) (method : MethodNumber) (m : Method) → method_at program method ≡ Some m → is_synchronized_at program method ≡ m.flags.is_synchronized
flag_of program method m m_is = ap (λ o. unwrap_or (option_map (λ (n : Method). n.flags.is_synchronized) o) false) m_is

-- A text equals itself.
same_as_itself : (text : List ℕ) → same_text text text ≡ true
same_as_itself [] = refl
same_as_itself (u ∷ us) = and_from (eqb u u) (same_text us us) (eq-eqb u u refl) (same_as_itself us)

-- The call is directly above its caller.
stands_on_caller : (program : List Class) (heap : List Object) (frame callee : MethodFrame) (m : Method) (how : Invoke) (r : MethodReference) (takes : ℕ) → IsProgram program → IsFrame program heap (stack_frame.Call frame) → instruction_at frame ≡ Some (instruction.Invoke how r) → method_at program callee.method ≡ Some m → m.descriptor ≡ r.descriptor → HasDepth frame takes (result_length r.method_type.result) → IsDirectlyAbove program (stack_frame.Call callee) (stack_frame.Call (without_arguments takes frame))
stands_on_caller program heap frame callee m how r takes of_program is at m_is same depth =
    let type : m.method_type ≡ r.method_type = called_has_type program frame.method frame.body frame.activation.place how r callee.method m of_program is.0 at m_is same in
    let lengths : result_length m.method_type.result ≡ result_length r.method_type.result = ap (λ (t : MethodType). result_length t.result) type in
    let room = depth.room in
    (m, m_is, (instruction.Invoke how r, at, subst (λ d. IsTrue (same_text r.descriptor d)) (sym same) (same_as_itself r.descriptor), omega (arith, length-drop takes frame.activation.operands)))

-- ---- The turn

module _ (program : List Class) (limits : Limits) (start : Start) (s : State) (t : ℕ) (thread : Thread) where
  abbrev KeepsSound : TurnDecision → Type 0
  KeepsSound d = Keeps program limits start s t d

  abbrev HasFrames : List Frame → Type 0
  HasFrames frames = Stands program limits s t thread frames

  -- ---- Entering a method

  -- The known facts when a method's code is entered with this number of arguments, and this is locked.
  record Enters (arguments : ℕ) (m : Method) (body : Body) (locked : Lock) : Type 0 where
    pub body_is : m.body ≡ Some body
    pub is_locked : IsLocked limits s locked
    pub flag : is_some (locked_reference locked) ≡ m.flags.is_synchronized
    pub room : length thread.frames < limits.frames
    pub few : arguments ≤ body.max_locals

  enter_keeps : {frames : List Frame} → HasFrames frames → (n : MethodNumber) (m : Method) (receiver : Option ℕ) (arguments : ℕ) (body : Body) (make : Lock → TurnDecision) → IfSome receiver (IsReference s.heap) → m.body ≡ Some body → ((locked : Lock) → Enters arguments m body locked → KeepsSound (make locked)) → KeepsSound (enter_decision program limits s t thread n m receiver arguments body make)
  enter_keeps stands n m receiver arguments body make reference body_is keeps =
      cond_both (nat_le limits.frames (length thread.frames)) _ _ KeepsSound
      (λ _. throws_keeps start stands thrown.StackOverflowError)
      (λ room. cond_both (nat_lt body.max_locals arguments) _ _ KeepsSound
      (λ _. still t stands.sound)
      (λ few. call_locking_keeps program limits start s t thread stands n m receiver make reference
      (λ locked is flag. keeps locked (record { body_is = body_is; is_locked = is; flag = flag; room = leb-false limits.frames (length thread.frames) room; few = ltb-false body.max_locals arguments few }))))

  with_body_keeps : {frames : List Frame} → HasFrames frames → (o : Option Body) (make : Body → TurnDecision) → ((body : Body) → o ≡ Some body → KeepsSound (make body)) → KeepsSound (with_body o make)
  with_body_keeps stands None make keeps = still t stands.sound
  with_body_keeps stands (Some body) make keeps = keeps body refl

  called_keeps : {frames : List Frame} → HasFrames frames → (n : MethodNumber) (m : Method) (receiver : Option ℕ) (arguments : ℕ) (native : TurnDecision) (make : Body → Lock → TurnDecision) → IfSome receiver (IsReference s.heap) → KeepsSound native → ((body : Body) (locked : Lock) → Enters arguments m body locked → KeepsSound (make body locked)) → KeepsSound (called_decision program limits s t thread n m receiver arguments native make)
  called_keeps stands n m receiver arguments native make reference native_keep keeps =
      cond_both m.flags.is_abstract _ _ KeepsSound
      (λ _. throws_keeps start stands thrown.AbstractMethodError)
      (λ _. cond_both m.flags.is_native _ _ KeepsSound
      (λ _. native_keep)
      (λ _. with_body_keeps stands m.body (λ body. enter_decision program limits s t thread n m receiver arguments body (make body))
      (λ body body_is. enter_keeps stands n m receiver arguments body (make body) reference body_is (keeps body))))

  -- The method of a number.
  numbered_by : {frames : List Frame} → HasFrames frames → (n : MethodNumber) (o : Option Method) (make : MethodNumber → Method → TurnDecision) → o ≡ method_at program n → ((m : Method) → o ≡ Some m → KeepsSound (make n m)) → KeepsSound (with_method program (Some n) make)
  numbered_by stands n None make e keeps = rw (← e) (still t stands.sound)
  numbered_by stands n (Some m) make e keeps = rw (← e) (keeps m refl)

  -- ---- The first call

  -- A method is entered with the arguments of the first call.
  enters_keeps : HasFrames [] → (n : MethodNumber) (m : Method) (body : Body) (locked : Lock) (count : ℕ) → method_at program n ≡ Some m → AllByRecursion (IsValue s.heap) (first_arguments start thread) → length (first_arguments start thread) ≡ count → Enters count m body locked → KeepsSound (decision.Applies (action.Enters n body locked))
  unfolding applied_to items_of
  enters_keeps stands n m body locked count m_is values as_many enters =
      let made = with_lock program s t locked in
      let there = stands_with_lock stands locked enters.is_locked in
      let arguments = first_arguments start thread in
      let frame = frame_of_call n body (locked_reference locked) arguments in
      let change = first_called start n body locked in
      let are : (change thread).frames ≡ stack_frame.Call frame ∷ [] = ap (λ (fs : List Frame). stack_frame.Call frame ∷ fs) stands.frames_are in
      let few : length arguments ≤ body.max_locals = subst (λ k. k ≤ body.max_locals) (sym as_many) enters.few in
      let values_there = values_grow s.heap made.heap (locked_grows program s t locked) arguments values in
      let room = enters.room in (
        (λ _. moved_is_sound there change (stack_frame.Call frame ∷ []) are refl (refl, refl)
            (entered_is_frame program made.heap n body (locked_reference locked) arguments few values_there (body_of program n m body m_is enters.body_is) (locked_is_reference program limits s t locked enters.is_locked) (enters.flag ∙ sym (flag_of program n m m_is)), tt)
            tt (omega arith) (λ c. count_call c frame [])),
        (λ _ limited. (slice_get_within s.threads t thread stands.given_out, can_be_locked stands.sound locked enters.is_locked limited, subst (λ o. IfSome o (λ (th : Thread). length (first_arguments start th) ≤ body.max_locals)) (sym stands.given_out) few)),
        marked_with_lock program t n locked ∙ entered_mark program t (calls_of s t) _ n
            (changed_calls made.threads t thread change there.given_out ∙ ap (λ (ms : List MethodNumber). n ∷ ms) (sym (ap calls_in stands.given_out))),
        (λ _. tt),
      )

  first_keeps : HasFrames [] → (receiver : Option ℕ) (count : ℕ) (n : MethodNumber) (m : Method) → IfSome receiver (IsReference s.heap) → method_at program n ≡ Some m → AllByRecursion (IsValue s.heap) (first_arguments start thread) → length (first_arguments start thread) ≡ count → KeepsSound (first_call program limits s t thread receiver count n m)
  first_keeps stands receiver count n m reference m_is values as_many =
      called_keeps stands n m receiver count _ (λ body locked. decision.Applies (action.Enters n body locked)) reference (throws_keeps start stands thrown.UnsatisfiedLinkError)
      (λ body locked enters. enters_keeps stands n m body locked count m_is values as_many enters)

  -- Thread 0 has the arguments of the start.
  entry_is_given : HasFrames [] → t ≡ 0 → first_arguments start thread ≡ start.arguments
  entry_is_given stands first =
      let at_first : slice_get s.threads 0 ≡ Some thread = subst (λ k. slice_get s.threads k ≡ Some thread) first stands.given_out in
      let none : thread.object ≡ None = subst (λ o. IfSome o (λ (u : Thread). u.object ≡ None)) at_first stands.sound.first_thread in
      rw none refl

  entry_keeps : HasFrames [] → (o : Option Method) → t ≡ 0 → IsStart start → method_at program start.method ≡ o → KeepsSound (entry_decision program limits start s t thread o)
  entry_keeps stands None first starts is = still t stands.sound
  entry_keeps stands (Some m) first starts is =
      let given = entry_is_given stands first in
      let values = all_weaker IsArgument (IsValue s.heap) (argument_is_value s.heap stands.sound.opened) start.arguments starts in
      cond_both (is_outside_method m.method_type) _ _ KeepsSound
      (λ _. still t stands.sound)
      (λ _. class_use_keeps program limits start s t thread stands start.method.class _
      (first_keeps stands None (length start.arguments) start.method m tt is (subst (AllByRecursion (IsValue s.heap)) (sym given) values) (ap length given)))

  -- Any other thread has its Thread object as its argument.
  object_is_given : (r : ℕ) → thread.object ≡ Some r → first_arguments start thread ≡ value.Reference r ∷ []
  object_is_given r is = rw is refl

  selected_run_keeps : HasFrames [] → (r : ℕ) (o : Option ResolvedMethod) → thread.object ≡ Some r → IsReference s.heap r → KeepsSound (selected_run program limits s t thread r o)
  selected_run_keeps stands r None is reference = throws_keeps start stands thrown.AbstractMethodError
  selected_run_keeps stands r (Some found) is reference = of_number (method_number program found)
    where
      of_number : (o : Option MethodNumber) → KeepsSound (with_method program o (first_call program limits s t thread (Some r) 1))
      of_number None = still t stands.sound
      of_number (Some n) =
          numbered_by stands n (method_at program n) _ refl
          (λ m m_is. first_keeps stands (Some r) 1 n m reference m_is (subst (AllByRecursion (IsValue s.heap)) (sym (object_is_given r is)) (reference, tt)) (ap length (object_is_given r is)))

  run_of_object_keeps : HasFrames [] → (r : ℕ) (o : Option Object) → thread.object ≡ Some r → IsReference s.heap r → KeepsSound (run_of_object program limits s t thread r o)
  run_of_object_keeps stands r None is reference = still t stands.sound
  run_of_object_keeps stands r (Some o) is reference = selected_run_keeps stands r (run_of_class program (class_of o)) is reference

  run_keeps : HasFrames [] → (o : Option ℕ) → thread.object ≡ o → KeepsSound (run_decision program limits s t thread o)
  run_keeps stands None is = still t stands.sound
  run_keeps stands (Some r) is =
      run_of_object_keeps stands r (object_at s.heap r) is (subst (λ o. IfSome o (IsReference s.heap)) is (thread_is stands).4)

  pub first_call_keeps : HasFrames [] → IsStart start → KeepsSound (first_call_decision program limits start s t thread)
  first_call_keeps stands starts =
      cond_both (t == 0) _ _ KeepsSound (λ first. entry_keeps stands (method_at program start.method) (eqb-true t 0 first) starts refl) (λ _. run_keeps stands thread.object refl)

  -- ---- The four call instructions

  module _ (frame : MethodFrame) (below : List Frame) (how : Invoke) (r : MethodReference) (stands : Stands program limits s t thread (stack_frame.Call frame ∷ below)) (at : instruction_at frame ≡ Some (instruction.Invoke how r)) (depth : HasDepth frame (slots_of_call how r.method_type) (result_length r.method_type.result)) (quiet : IsQuiet thread) where
    -- The operands that are the arguments.
    arguments_are : (takes : ℕ) → arguments_of takes (slice_get s.threads t) ≡ reverse (take takes frame.activation.operands)
    arguments_are takes = ap (arguments_of takes) stands.given_out ∙ ap (λ (fs : List Frame). reverse (take takes (top_operands fs))) stands.frames_are

    -- A method is called.
    calls_keeps : (n : MethodNumber) (m : Method) (body : Body) (locked : Lock) → method_at program n ≡ Some m → m.descriptor ≡ r.descriptor → Enters (slots_of_call how r.method_type) m body locked → KeepsSound (decision.Applies (action.Calls n body (slots_of_call how r.method_type) locked))
    unfolding applied_to items_of
    calls_keeps n m body locked m_is same enters =
        let made = with_lock program s t locked in
        let on = stands_with_lock stands locked enters.is_locked in
        let takes = slots_of_call how r.method_type in
        let arguments = arguments_of takes (slice_get s.threads t) in
        let callee = frame_of_call n body (locked_reference locked) arguments in
        let frames = frames_are_stack on in
        let now = stack_frame.Call callee ∷ stack_frame.Call (without_arguments takes frame) ∷ below in
        let are : (thread_with_call callee takes thread).frames ≡ now = ap (λ (fs : List Frame). stack_frame.Call callee ∷ stack_without_operands takes fs) stands.frames_are in
        let as_many : length arguments ≡ takes = ap length (arguments_are takes) ∙ length-reverse (take takes frame.activation.operands) ∙ length-take-le takes frame.activation.operands depth.there in
        let values : AllByRecursion (IsValue made.heap) arguments = subst (AllByRecursion (IsValue made.heap)) (sym (arguments_are takes)) (all_reverse (IsValue made.heap) (take takes frame.activation.operands) (all_take (IsValue made.heap) takes frame.activation.operands frames.0.0.3)) in
        let few : length arguments ≤ body.max_locals = subst (λ k. k ≤ body.max_locals) (sym as_many) enters.few in
        let there : length thread.frames ≡ length (stack_frame.Call frame ∷ below) = ap length stands.frames_are in
        let room = enters.room in (
          (λ of_program. moved_is_sound on (thread_with_call callee takes) now are refl (refl, refl)
              (entered_is_frame program made.heap n body (locked_reference locked) arguments few values (body_of program n m body m_is enters.body_is) (locked_is_reference program limits s t locked enters.is_locked) (enters.flag ∙ sym (flag_of program n m m_is)), (given_is_frame program made.heap takes frame frames.0.0, frames.0.1))
              (stands_on_caller program made.heap frame callee m how r takes of_program frames.0.0 at m_is same depth, stack_goes_on program frame (without_arguments takes frame).activation below frames.1)
              (omega arith)
              (λ c. count_call c callee (stack_frame.Call (without_arguments takes frame) ∷ below) ∙ count_call c (without_arguments takes frame) below ∙ sym (count_call c frame below))),
          (λ _ limited. (slice_get_within s.threads t thread stands.given_out, enters.few, can_be_locked stands.sound locked enters.is_locked limited, subst (λ o. IfSome o (λ (th : Thread). takes ≤ length (top_operands th.frames))) (sym stands.given_out) (subst (λ (fs : List Frame). takes ≤ length (top_operands fs)) (sym stands.frames_are) depth.there))),
          marked_with_lock program t n locked ∙ entered_mark program t (calls_of s t) _ n
              (changed_calls made.threads t thread (thread_with_call callee takes) on.given_out ∙ ap (λ (ms : List MethodNumber). n ∷ ms) (given_calls takes thread.frames ∙ sym (ap calls_in stands.given_out))),
          (λ _. tt),
        )

    call_keeps : (receiver : Option ℕ) → IfSome receiver (IsReference s.heap) → (found : ResolvedMethod) (n : MethodNumber) (m : Method) → IsFound program r.descriptor found → method_number program found ≡ Some n → method_at program n ≡ Some m → m.descriptor ≡ r.descriptor → KeepsSound (call_decision program limits s t thread frame.activation receiver (slots_of_call how r.method_type) n m)
    call_keeps receiver reference found n m is number m_is same =
        called_keeps stands n m receiver (slots_of_call how r.method_type) _ (λ body locked. decision.Applies (action.Calls n body (slots_of_call how r.method_type) locked)) reference
        (native_keeps program limits start s t thread frame below stands (how, r, at) quiet (slots_of_call how r.method_type) m (slice_get program n.class) depth.there)
        (λ body locked enters. calls_keeps n m body locked m_is same enters)

    numbered_keeps : (found : ResolvedMethod) (o : Option MethodNumber) (make : MethodNumber → Method → TurnDecision) → IsFound program r.descriptor found → method_number program found ≡ o → ((n : MethodNumber) (m : Method) → method_number program found ≡ Some n → method_at program n ≡ Some m → m.descriptor ≡ r.descriptor → KeepsSound (make n m)) → KeepsSound (with_method program o make)
    numbered_keeps found None make is number keeps = still t stands.sound
    numbered_keeps found (Some n) make is number keeps =
        numbered_by stands n (method_at program n) make refl (λ m m_is. keeps n m number m_is (numbered_has_descriptor program r.descriptor found n m is number m_is))

    static_keeps : (found : ResolvedMethod) → IsFound program r.descriptor found → KeepsSound (static_call_decision program limits s t thread frame.activation (slots_of_call how r.method_type) found)
    static_keeps found is =
        numbered_keeps found (method_number program found) _ is refl
        (λ n m number m_is same. class_use_keeps program limits start s t thread stands n.class _ (call_keeps None tt found n m is number m_is same))

    selected_keeps : (q : ℕ) → IsReference s.heap q → (o : Option ResolvedMethod) → ((f : ResolvedMethod) → o ≡ Some f → IsFound program r.descriptor f) → KeepsSound (selected_decision program limits s t thread frame.activation q (slots_of_call how r.method_type) o)
    selected_keeps q reference None is = throws_keeps start stands thrown.AbstractMethodError
    selected_keeps q reference (Some found) is =
        numbered_keeps found (method_number program found) _ (is found refl) refl
        (λ n m number m_is same. call_keeps (Some q) reference found n m (is found refl) number m_is same)

    wrong_receiver_keeps : (kind : Invoke) → KeepsSound (wrong_receiver limits s thread kind)
    wrong_receiver_keeps invoke.Interface = throws_keeps start stands thrown.IncompatibleClassChangeError
    wrong_receiver_keeps _ = still t stands.sound

    object_call_keeps : (found : ResolvedMethod) (q : ℕ) (o : Option Object) → object_at s.heap q ≡ o → IsFound program r.descriptor found → KeepsSound (object_call_decision program limits s t thread frame how r found q o)
    object_call_keeps found q None at_q is = still t stands.sound
    object_call_keeps found q (Some o) at_q is =
        cond_both (fits program (class_of o) found.class.name) _ _ KeepsSound
        (λ _. selected_keeps q (leads_is_reference s.heap q o at_q) (selected_method program frame how r (class_of o) found) (λ f f_is. selected_is_found program frame how r (class_of o) r.descriptor found f is f_is))
        (λ _. wrong_receiver_keeps how)

    receiver_keeps : (found : ResolvedMethod) (o : Option Value) → IsFound program r.descriptor found → KeepsSound (receiver_call_decision program limits s t thread frame how r found o)
    receiver_keeps found (Some (value.Reference q)) is = object_call_keeps found q (object_at s.heap q) refl is
    receiver_keeps found (Some value.Null) is = throws_keeps start stands thrown.NullPointerException
    receiver_keeps found _ is = still t stands.sound

    resolved_keeps : (o : Result ResolvedMethod Thrown) → resolved_method program (is_static_call how) r ≡ o → KeepsSound (resolved_call_decision program limits s t thread frame how r o)
    resolved_keeps (Err class) is = throws_keeps start stands class
    resolved_keeps (Ok found) is =
        let found_is = resolved_is_found program (is_static_call how) r found is in
        cond_both (is_static_call how) _ _ KeepsSound
        (λ _. static_keeps found found_is)
        (λ _. receiver_keeps found (receiver_of r.method_type frame.activation.operands) found_is)

  pub invoke_keeps : (frame : MethodFrame) (below : List Frame) (how : Invoke) (r : MethodReference) → HasFrames (stack_frame.Call frame ∷ below) → instruction_at frame ≡ Some (instruction.Invoke how r) → IsQuiet thread → KeepsSound (invoke_decision program limits s t thread frame how r)
  unfolding invoke_decision
  invoke_keeps frame below how r stands at quiet =
      let deep = has_depth frame.body (slots_of_call how r.method_type) (result_length r.method_type.result) frame.activation in
      cond_both (not deep) _ _ KeepsSound
      (λ _. still t stands.sound)
      (λ is_deep. cond_both (not (are_of_call how r.method_type frame.activation.operands)) _ _ KeepsSound
      (λ _. still t stands.sound)
      (λ _. resolved_keeps frame below how r stands at (depth_is frame (slots_of_call how r.method_type) (result_length r.method_type.result) (not-false deep is_deep)) quiet (resolved_method program (is_static_call how) r) refl))
