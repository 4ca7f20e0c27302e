-- A local call or return is decided as before where its thread, the classes of objects, and the classes that are
-- initialised for it are as before.
use Rattle.std.proofs.Common.{Bool, List, None, Option, Some, [], ap, codes, eqb-true, false, if◌then◌else◌, length, nat_le, nat_lt, not, refl, slice_get, subst, sym, true, ℕ, ◌&&◌, ◌==◌, ◌∙◌, ◌∷◌, ◌≡◌}
use Rattle.std.proofs.lemmas.Bool.{cond_both, false≢true}
use Rattle.std.specs.Prelude.{Err, Ok, Result}
use Rattle.jvms_file.specs.Names.{same_text}
use Rattle.jvms_file.specs.declared.descriptor.ResultType.{ResultType}
use Rattle.jvms_file.specs.declared.insn.Invoke.{Invoke}
use Rattle.jvms_file.specs.declared.insn.Kind.{Kind}
use Rattle.jvms_file.specs.declared.insn.ReturnInsn.{ReturnInsn}
use Rattle.jvms_file.specs.declared.insn.ReturnInsn.TheVariants as returns
use Rattle.jvms_file.specs.declared.insn.Simple.TheVariants as simple
use Rattle.jvms_machine.specs.Activations.{has_depth}
use Rattle.jvms_machine.specs.Calls.{are_of_call, call_decision, enter_decision, invoke_decision, object_call_decision, receiver_call_decision, receiver_of, resolved_call_decision, selected_decision, selected_method, slots_of_call, static_call_decision, with_body, with_method, wrong_receiver}
use Rattle.jvms_machine.specs.Decisions.{TurnDecision}
use Rattle.jvms_machine.specs.Exceptions.{exception_of, has_room_for, raise_decision, throws}
use Rattle.jvms_machine.specs.Heap.{class_name_at}
use Rattle.jvms_machine.specs.Initialisation.{begin_decision, class_use_decision, constants_of, new_texts, requiring_class_in}
use Rattle.jvms_machine.specs.Locals.{is_profile_kind}
use Rattle.jvms_machine.specs.Monitors.{call_locking, class_locking, fails_to_unlock, frame_unlocking, monitor_exit, object_locking}
use Rattle.jvms_machine.specs.Natives.{native_of_class, object_printed, print_decision, value_printed}
use Rattle.jvms_machine.specs.Places.{kind_size, top_value, whole_top}
use Rattle.jvms_machine.specs.Returns.{gives_kind, gives_nothing, method_return_decision, return_decision, return_value_decision, returned_decision, returns_to}
use Rattle.jvms_machine.specs.Start.{Start}
use Rattle.jvms_machine.specs.State.{Activation, Frame, MethodFrame, Object, State, Thread, ThreadStatus, array, class_object, class_of, class_reference, executing, instance, monitor_at, object_at, over, result_length, status_of_thread, text, unwinding, waiting}
use Rattle.jvms_machine.specs.Steps.{frame_decision, instruction_at}
use Rattle.jvms_machine.specs.Threads.{join_decision, start_decision, thread_native_decision, thread_of}
use Rattle.jvms_machine.specs.Turn.{decide, frame_turn_decision, frames_decision, instruction_decision, reaching_decision, started_decision, thread_decision}
use Rattle.jvms_machine.specs.Waiting.{object_native_decision, owner_decision, waits_or_notifies}
use Rattle.jvms_machine.specs.declared.action.Action.TheVariants as action
use Rattle.jvms_machine.specs.declared.action.Decision.TheVariants as decision
use Rattle.jvms_machine.specs.declared.action.Exception.{Exception}
use Rattle.jvms_machine.specs.declared.action.FrameDecision.{FrameDecision}
use Rattle.jvms_machine.specs.declared.action.FrameDecision.TheVariants as frame_decided
use Rattle.jvms_machine.specs.declared.action.Lock.{Lock}
use Rattle.jvms_machine.specs.declared.action.Lock.TheVariants as lock
use Rattle.jvms_machine.specs.declared.action.MonitorUse.{MonitorUse}
use Rattle.jvms_machine.specs.declared.machine.Limits.{Limits}
use Rattle.jvms_machine.specs.declared.state.Hold.{Hold}
use Rattle.jvms_machine.specs.declared.machine.Outcome.TheVariants as outcome
use Rattle.jvms_machine.specs.declared.machine.BlockedOn.TheVariants as blocked
use Rattle.jvms_file.specs.declared.insn.Invoke.TheVariants as invoke
use Rattle.jvms_machine.specs.declared.state.Initialisation.{Initialisation}
use Rattle.jvms_machine.specs.declared.state.Initialisation.TheVariants as initialisation
use Rattle.jvms_machine.specs.declared.state.StackFrame.TheVariants as stack_frame
use Rattle.jvms_machine.specs.declared.value.Value.{Value}
use Rattle.jvms_machine.specs.declared.value.Value.TheVariants as value
use Rattle.jvms_program.specs.Program.{method_at}
use Rattle.jvms_program.specs.Resolution.{ResolvedMethod, fits, is_static_call, method_number, resolved_method}
use Rattle.jvms_program.specs.declared.number.MethodNumber.{MethodNumber}
use Rattle.jvms_program.specs.declared.program.Body.{Body}
use Rattle.jvms_program.specs.declared.program.Class.{Class}
use Rattle.jvms_program.specs.declared.program.Instruction.{Instruction}
use Rattle.jvms_program.specs.declared.program.Instruction.TheVariants as instruction
use Rattle.jvms_program.specs.declared.program.Method.{Method}
use Rattle.jvms_program.specs.declared.program.MethodReference.{MethodReference}
use Rattle.jvms_program.specs.declared.thrown.Thrown.{Thrown}
use Rattle.jvms_program.specs.declared.thrown.Thrown.TheVariants as thrown
use Rattle.turn_item_laws.proofs.DecisionWalks.{IsOfTests, monitor_entry_has}
use Rattle.local_turns.proofs.Heaps.{KeepsClasses}
use Rattle.local_laws.specs.Local.{calls_or_returns, is_local_decision, status_calls_or_returns, thread_calls_or_returns, top_calls_or_returns}

-- The initialisation of a class doesn't stop thread t.
abbrev pub IsSettled : ℕ → Initialisation → Type 0
IsSettled t initialisation.Done = Unit {0}
IsSettled t (initialisation.InProgress u) = u ≡ t
IsSettled t _ = ⊥

abbrev pub KeepsSettled : ℕ → State → State → Type 0
KeepsSettled t s made = (class : ℕ) (i : Initialisation) → slice_get s.initialisations class ≡ Some i → IsSettled t i → slice_get made.initialisations class ≡ Some i

-- The decision isn't local.
abbrev NotLocal : TurnDecision → Type 0
NotLocal d = is_local_decision d ≡ false

-- If the decision is local, so is the other, which is the same.
abbrev Same : TurnDecision → TurnDecision → Type 0
Same d made = is_local_decision d ≡ true → made ≡ d

never : (d made : TurnDecision) → NotLocal d → Same d made
never d made not_local is = absurd (false≢true (sym not_local ∙ is))

same_if : (b : Bool) (x y p q : TurnDecision) → Same x p → Same y q → Same (if b then x else y) (if b then p else q)
same_if true x y p q first second = first
same_if false x y p q first second = second

raise_not_local : (frames : List Frame) (e : Exception) → NotLocal (raise_decision frames e)
raise_not_local [] e = refl
raise_not_local (f ∷ below) e = refl

throws_not_local : (limits : Limits) (s : State) (thread : Thread) (class : Thrown) → NotLocal (throws limits s thread class)
unfolding throws
throws_not_local limits s thread class = raise_not_local thread.frames (exception_of limits s class)

module _ (program : List Class) (limits : Limits) (s : State) (t : ℕ) (thread : Thread) where
  tests : IsOfTests limits s thread NotLocal
  tests = record { unmade = λ o. refl; thrown_by = throws_not_local limits s thread; begun_by = λ class begins. refl }

  -- ---- Natives

  printed_not_local : (a : Activation) (takes : ℕ) (ends_line : Bool) (r : ℕ) (o : Option Object) → NotLocal (object_printed a takes ends_line r o)
  printed_not_local a takes ends_line r None = refl
  printed_not_local a takes ends_line r (Some (text units)) = refl
  printed_not_local a takes ends_line r (Some (instance class fields)) = refl
  printed_not_local a takes ends_line r (Some (array class elements)) = refl
  printed_not_local a takes ends_line r (Some (class_object name)) = refl

  value_not_local : (a : Activation) (takes : ℕ) (ends_line : Bool) (v : Option Value) → NotLocal (value_printed s a takes ends_line v)
  value_not_local a takes ends_line (Some (value.Int n)) = refl
  value_not_local a takes ends_line (Some (value.Long n)) = refl
  value_not_local a takes ends_line (Some value.Null) = refl
  value_not_local a takes ends_line (Some (value.Reference r)) = printed_not_local a takes ends_line r (object_at s.heap r)
  value_not_local a takes ends_line _ = refl

  print_not_local : (a : Activation) (takes : ℕ) (m : Method) → NotLocal (print_decision s a takes m)
  print_not_local a takes m =
      cond_both (same_text m.name (codes "println") && same_text m.descriptor (codes "()V")) _ _ NotLocal (λ _. refl)
      (λ _. value_not_local a takes (same_text m.name (codes "println")) (whole_top a.operands))

  start_not_local : (a : Activation) (r : ℕ) (o : Option ℕ) → NotLocal (start_decision limits s thread a r o)
  start_not_local a r (Some u) = throws_not_local limits s thread thrown.IllegalThreadStateException
  start_not_local a r None = cond_both (nat_lt (length s.threads) limits.threads) _ _ NotLocal (λ _. refl) (λ _. throws_not_local limits s thread thrown.OutOfMemoryError)

  joined_not_local : (a : Activation) (u : ℕ) (o : Option Thread) → slice_get s.threads u ≡ o → NotLocal (join_decision s a (Some u))
  joined_not_local a u None at = rw at refl
  joined_not_local a u (Some other) at = rw at (cond_both other.ended _ _ NotLocal (λ _. refl) (λ _. refl))

  join_not_local : (a : Activation) (o : Option ℕ) → NotLocal (join_decision s a o)
  join_not_local a None = refl
  join_not_local a (Some u) = joined_not_local a u (slice_get s.threads u) refl

  thread_native_not_local : (a : Activation) (m : Method) (operands : List Value) → NotLocal (thread_native_decision limits s thread a m operands)
  thread_native_not_local a m (value.Reference r ∷ below) =
      cond_both (same_text m.name (codes "start")) _ _ NotLocal (λ _. start_not_local a r (thread_of s.threads r)) (λ _. join_not_local a (thread_of s.threads r))
  thread_native_not_local a m [] = refl
  thread_native_not_local a m (_ ∷ below) = refl

  owner_not_local : (a : Activation) (m : Method) (r : ℕ) (o : Option Hold) → NotLocal (owner_decision limits s t thread o (waits_or_notifies a m r))
  owner_not_local a m r None = throws_not_local limits s thread thrown.IllegalMonitorStateException
  owner_not_local a m r (Some h) =
      cond_both (h.owner == t) _ _ NotLocal
      (λ _. cond_both (same_text m.name (codes "wait")) _ _ NotLocal (λ _. refl) (λ _. refl))
      (λ _. throws_not_local limits s thread thrown.IllegalMonitorStateException)

  object_native_not_local : (a : Activation) (m : Method) (operands : List Value) → NotLocal (object_native_decision limits s t thread a m operands)
  object_native_not_local a m (value.Reference r ∷ below) = owner_not_local a m r (monitor_at s.monitors r)
  object_native_not_local a m [] = refl
  object_native_not_local a m (_ ∷ below) = refl

  native_not_local : (a : Activation) (takes : ℕ) (m : Method) (c : Option Class) → NotLocal (native_of_class limits s t thread a takes m c)
  native_not_local a takes m None = refl
  native_not_local a takes m (Some c) =
      cond_both (same_text c.name (codes "java/io/PrintStream")) _ _ NotLocal
      (λ _. print_not_local a takes m)
      (λ _. cond_both (same_text c.name (codes "java/lang/Thread")) _ _ NotLocal
      (λ _. thread_native_not_local a m a.operands)
      (λ _. cond_both (same_text c.name (codes "java/lang/Object")) _ _ NotLocal
      (λ _. object_native_not_local a m a.operands)
      (λ _. throws_not_local limits s thread thrown.UnsatisfiedLinkError)))

  -- ---- Synchronized methods

  object_locking_not_local : (receiver : Option ℕ) (make : Lock → TurnDecision) → ((monitor : MonitorUse) → NotLocal (make (lock.Monitor monitor))) → NotLocal (object_locking limits s t thread receiver make)
  object_locking_not_local None make has = refl
  object_locking_not_local (Some r) make has = monitor_entry_has program limits s t thread NotLocal tests r (λ monitor. make (lock.Monitor monitor)) has

  class_locking_not_local : (class : ℕ) (o : Option ℕ) (make : Lock → TurnDecision) → ((monitor : MonitorUse) → NotLocal (make (lock.Monitor monitor))) → ((r : ℕ) → NotLocal (make (lock.NewClass class r))) → NotLocal (class_locking limits s t thread class o make)
  class_locking_not_local class (Some r) make has new = monitor_entry_has program limits s t thread NotLocal tests r (λ monitor. make (lock.Monitor monitor)) has
  class_locking_not_local class None make has new =
      cond_both (has_room_for 1 limits s) _ _ NotLocal (λ _. new _) (λ _. throws_not_local limits s thread thrown.OutOfMemoryError)

  -- ---- Returns

  unlocking_by : (r : ℕ) (o : Option MonitorUse) (fails : TurnDecision) (make : Option MonitorUse → TurnDecision) → o ≡ monitor_exit s t r → NotLocal fails → ((monitor : MonitorUse) → NotLocal (make (Some monitor))) → NotLocal (frame_unlocking s t (Some r) fails make)
  unlocking_by r None fails make e fail has = rw (← e) fail
  unlocking_by r (Some monitor) fails make e fail has = rw (← e) (has monitor)

  left_not_local : (n : MethodNumber) (below : List Frame) (result : Option Value) (monitor : MonitorUse) → NotLocal (returns_to n below result (Some monitor))
  left_not_local n [] result monitor = refl
  left_not_local n (f ∷ below) result monitor = refl

  -- ---- Initialisation

  begin_not_local : (class : ℕ) (o : Option Class) → NotLocal (begin_decision limits s thread class o)
  begin_not_local class None = refl
  begin_not_local class (Some c) =
      cond_both (not (has_room_for (length (new_texts s.heap (constants_of c.fields))) limits s)) _ _ NotLocal
      (λ _. throws_not_local limits s thread thrown.OutOfMemoryError)
      (λ _. cond_both (nat_le limits.frames (length thread.frames)) _ _ NotLocal (λ _. throws_not_local limits s thread thrown.StackOverflowError) (λ _. refl))

  wrong_not_local : (how : Invoke) → NotLocal (wrong_receiver limits s thread how)
  wrong_not_local invoke.Interface = throws_not_local limits s thread thrown.IncompatibleClassChangeError
  wrong_not_local _ = refl

-- ---- Two states

module _ (program : List Class) (limits : Limits) (s made : State) (t : ℕ) (thread : Thread) (classes : KeepsClasses s made) (settled : KeepsSettled t s made) where
  -- ---- Returns

  unlocking_same : (o : Option ℕ) (n : MethodNumber) (below : List Frame) (result : Option Value)
      → Same (frame_unlocking s t o (fails_to_unlock limits s n below) (returns_to n below result)) (frame_unlocking made t o (fails_to_unlock limits made n below) (returns_to n below result))
  unlocking_same None n below result = λ is. refl
  unlocking_same (Some r) n below result =
      never _ _ (unlocking_by program limits s t thread r (monitor_exit s t r) (fails_to_unlock limits s n below) (returns_to n below result) refl refl (left_not_local program limits s t thread n below result))

  returned_same : (frame : MethodFrame) (below : List Frame) (result : Option Value) → Same (returned_decision limits s t frame below result) (returned_decision limits made t frame below result)
  returned_same frame below result = unlocking_same frame.monitor frame.method below result

  return_value_same : (frame : MethodFrame) (below : List Frame) (type : ResultType) (k : Kind) (o : Option Value) → Same (return_value_decision limits s t frame below type k o) (return_value_decision limits made t frame below type k o)
  return_value_same frame below type k None = λ is. refl
  return_value_same frame below type k (Some v) = same_if (gives_kind type k) _ _ _ _ (returned_same frame below (Some v)) (λ is. refl)

  return_same : (frame : MethodFrame) (below : List Frame) (type : ResultType) (how : ReturnInsn) → Same (return_decision limits s t frame below type how) (return_decision limits made t frame below type how)
  return_same frame below type returns.Void = same_if (gives_nothing type) _ _ _ _ (returned_same frame below None) (λ is. refl)
  return_same frame below type (returns.Value k) =
      same_if (is_profile_kind k) _ _ _ _
      (same_if (nat_le (kind_size k) (length frame.activation.operands)) _ _ _ _ (return_value_same frame below type k (top_value k frame.activation.operands)) (λ is. refl))
      (λ is. refl)

  method_return_same : (frame : MethodFrame) (below : List Frame) (how : ReturnInsn) (o : Option Method) → Same (method_return_decision limits s t frame below how o) (method_return_decision limits made t frame below how o)
  method_return_same frame below how None = λ is. refl
  method_return_same frame below how (Some m) = return_same frame below m.method_type.result how

  -- ---- Calls

  locking_same : (n : MethodNumber) (m : Method) (receiver : Option ℕ) (body : Body) (takes : ℕ)
      → Same (call_locking program limits s t thread n m receiver (λ locked. decision.Applies (action.Calls n body takes locked))) (call_locking program limits made t thread n m receiver (λ locked. decision.Applies (action.Calls n body takes locked)))
  locking_same n m receiver body takes =
      same_if (not m.flags.is_synchronized) _ _ _ _ (λ is. refl)
      (never _ _ (cond_both m.flags.is_static _ _ NotLocal
      (λ _. class_locking_not_local program limits s t thread n.class (class_reference s.heap (class_name_at program n.class)) (λ locked. decision.Applies (action.Calls n body takes locked)) (λ monitor. refl) (λ r. refl))
      (λ _. object_locking_not_local program limits s t thread receiver (λ locked. decision.Applies (action.Calls n body takes locked)) (λ monitor. refl))))

  enter_same : (n : MethodNumber) (m : Method) (receiver : Option ℕ) (takes : ℕ) (body : Body)
      → Same (enter_decision program limits s t thread n m receiver takes body (λ locked. decision.Applies (action.Calls n body takes locked))) (enter_decision program limits made t thread n m receiver takes body (λ locked. decision.Applies (action.Calls n body takes locked)))
  enter_same n m receiver takes body =
      same_if (nat_le limits.frames (length thread.frames)) _ _ _ _ (never _ _ (throws_not_local limits s thread thrown.StackOverflowError))
      (same_if (nat_lt body.max_locals takes) _ _ _ _ (λ is. refl) (locking_same n m receiver body takes))

  body_same : (n : MethodNumber) (m : Method) (receiver : Option ℕ) (takes : ℕ) (o : Option Body)
      → Same (with_body o (λ body. enter_decision program limits s t thread n m receiver takes body (λ locked. decision.Applies (action.Calls n body takes locked))))
      (with_body o (λ body. enter_decision program limits made t thread n m receiver takes body (λ locked. decision.Applies (action.Calls n body takes locked))))
  body_same n m receiver takes None = λ is. refl
  body_same n m receiver takes (Some body) = enter_same n m receiver takes body

  call_same : (a : Activation) (receiver : Option ℕ) (takes : ℕ) (n : MethodNumber) (m : Method) → Same (call_decision program limits s t thread a receiver takes n m) (call_decision program limits made t thread a receiver takes n m)
  call_same a receiver takes n m =
      same_if m.flags.is_abstract _ _ _ _ (never _ _ (throws_not_local limits s thread thrown.AbstractMethodError))
      (same_if m.flags.is_native _ _ _ _ (never _ _ (native_not_local program limits s t thread a takes m (slice_get program n.class))) (body_same n m receiver takes m.body))

  numbered_by : (n : MethodNumber) (o : Option Method) (first second : MethodNumber → Method → TurnDecision) → o ≡ method_at program n → ((m : Method) → Same (first n m) (second n m)) → Same (with_method program (Some n) first) (with_method program (Some n) second)
  numbered_by n None first second e same = rw (← e) (λ is. refl)
  numbered_by n (Some m) first second e same = rw (← e) (same m)

  numbered_same : (o : Option MethodNumber) (first second : MethodNumber → Method → TurnDecision) → ((n : MethodNumber) (m : Method) → Same (first n m) (second n m)) → Same (with_method program o first) (with_method program o second)
  numbered_same None first second same = λ is. refl
  numbered_same (Some n) first second same = numbered_by n (method_at program n) first second refl (same n)

  -- A class that is settled is so in both states.
  use_by : (class : ℕ) (o : Option Initialisation) (first second : TurnDecision) → slice_get s.initialisations class ≡ o → Same first second
      → Same (requiring_class_in program limits s t thread class o first) (class_use_decision program limits made t thread class second)
  use_by class None first second at same = never _ _ refl
  use_by class (Some initialisation.NotBegun) first second at same = never _ _ (begin_not_local program limits s t thread class (slice_get program class))
  use_by class (Some (initialisation.InProgress u)) first second at same = of (u == t) refl
    where
      of : (b : Bool) → (u == t) ≡ b → Same (if b then first else decision.Stays (outcome.Blocked (blocked.Initialisation class u))) (class_use_decision program limits made t thread class second)
      of false other = never _ _ refl
      of true own = λ is. ap (λ o. requiring_class_in program limits made t thread class o second) (settled class (initialisation.InProgress u) at (eqb-true u t own)) ∙ (ap (λ b. if b then second else decision.Stays (outcome.Blocked (blocked.Initialisation class u))) own ∙ same is)
  use_by class (Some initialisation.Done) first second at same = λ is. ap (λ o. requiring_class_in program limits made t thread class o second) (settled class initialisation.Done at tt) ∙ same is
  use_by class (Some initialisation.Erroneous) first second at same = never _ _ (throws_not_local limits s thread thrown.NoClassDefFoundError)

  static_same : (a : Activation) (takes : ℕ) (found : ResolvedMethod) → Same (static_call_decision program limits s t thread a takes found) (static_call_decision program limits made t thread a takes found)
  static_same a takes found =
      numbered_same (method_number program found) _ _
      (λ n m. use_by n.class (slice_get s.initialisations n.class) (call_decision program limits s t thread a None takes n m) (call_decision program limits made t thread a None takes n m) refl (call_same a None takes n m))

  selected_same : (a : Activation) (r takes : ℕ) (o : Option ResolvedMethod) → Same (selected_decision program limits s t thread a r takes o) (selected_decision program limits made t thread a r takes o)
  selected_same a r takes None = never _ _ (throws_not_local limits s thread thrown.AbstractMethodError)
  selected_same a r takes (Some found) = numbered_same (method_number program found) _ _ (λ n m. call_same a (Some r) takes n m)

  -- The decision for an object depends on its class.
  object_like : (frame : MethodFrame) (how : Invoke) (r : MethodReference) (found : ResolvedMethod) (q : ℕ) (o now : Object) → class_of now ≡ class_of o
      → object_call_decision program limits made t thread frame how r found q (Some now) ≡ object_call_decision program limits made t thread frame how r found q (Some o)
  object_like frame how r found q o now same = ap
      (λ c. if fits program c found.class.name
      then selected_decision program limits made t thread frame.activation q (slots_of_call how r.method_type) (selected_method program frame how r c found)
      else wrong_receiver limits made thread how)
      same

  object_same : (frame : MethodFrame) (how : Invoke) (r : MethodReference) (found : ResolvedMethod) (q : ℕ) (o : Option Object) → object_at s.heap q ≡ o
      → Same (object_call_decision program limits s t thread frame how r found q o) (object_call_decision program limits made t thread frame how r found q (object_at made.heap q))
  object_same frame how r found q None at = never _ _ refl
  object_same frame how r found q (Some o) at =
      let kept = classes q o at in
      let first = same_if (fits program (class_of o) found.class.name) _ _
      (selected_decision program limits made t thread frame.activation q (slots_of_call how r.method_type) (selected_method program frame how r (class_of o) found))
      (wrong_receiver limits made thread how)
      (selected_same frame.activation q (slots_of_call how r.method_type) (selected_method program frame how r (class_of o) found))
      (never _ _ (wrong_not_local program limits s t thread how)) in
      λ is. ap (object_call_decision program limits made t thread frame how r found q) kept.1 ∙ (object_like frame how r found q o kept.0 kept.2 ∙ first is)

  receiver_same : (frame : MethodFrame) (how : Invoke) (r : MethodReference) (found : ResolvedMethod) (o : Option Value) → Same (receiver_call_decision program limits s t thread frame how r found o) (receiver_call_decision program limits made t thread frame how r found o)
  receiver_same frame how r found (Some (value.Reference q)) = object_same frame how r found q (object_at s.heap q) refl
  receiver_same frame how r found (Some value.Null) = never _ _ (throws_not_local limits s thread thrown.NullPointerException)
  receiver_same frame how r found _ = λ is. refl

  resolved_same : (frame : MethodFrame) (how : Invoke) (r : MethodReference) (o : Result ResolvedMethod Thrown) → Same (resolved_call_decision program limits s t thread frame how r o) (resolved_call_decision program limits made t thread frame how r o)
  resolved_same frame how r (Err class) = never _ _ (throws_not_local limits s thread class)
  resolved_same frame how r (Ok found) =
      same_if (is_static_call how) _ _ _ _
      (static_same frame.activation (slots_of_call how r.method_type) found)
      (receiver_same frame how r found (receiver_of r.method_type frame.activation.operands))

  invoke_same : (frame : MethodFrame) (how : Invoke) (r : MethodReference) → Same (invoke_decision program limits s t thread frame how r) (invoke_decision program limits made t thread frame how r)
  unfolding invoke_decision
  invoke_same frame how r =
      same_if (not (has_depth frame.body (slots_of_call how r.method_type) (result_length r.method_type.result) frame.activation)) _ _ _ _ (λ is. refl)
      (same_if (not (are_of_call how r.method_type frame.activation.operands)) _ _ _ _ (λ is. refl) (resolved_same frame how r (resolved_method program (is_static_call how) r)))

  -- ---- Turns

  reaching_same : (frame : MethodFrame) (below : List Frame) (i : Instruction) → calls_or_returns (Some i) ≡ true → Same (reaching_decision program limits s t thread frame below i) (reaching_decision program limits made t thread frame below i)
  unfolding reaching_decision
  reaching_same frame below (instruction.Simple (simple.Return how)) now = method_return_same frame below how (method_at program frame.method)
  reaching_same frame below (instruction.Invoke how r) now = invoke_same frame how r
  reaching_same frame below (instruction.Simple simple.Nop) now = absurd (false≢true now)
  reaching_same frame below (instruction.Simple (simple.Push p)) now = absurd (false≢true now)
  reaching_same frame below (instruction.Simple (simple.Local how n)) now = absurd (false≢true now)
  reaching_same frame below (instruction.Simple (simple.Increment n by)) now = absurd (false≢true now)
  reaching_same frame below (instruction.Simple (simple.Stack f)) now = absurd (false≢true now)
  reaching_same frame below (instruction.Simple (simple.Int i)) now = absurd (false≢true now)
  reaching_same frame below (instruction.Simple (simple.Long i)) now = absurd (false≢true now)
  reaching_same frame below (instruction.Simple (simple.Floating i)) now = absurd (false≢true now)
  reaching_same frame below (instruction.Simple (simple.Array i)) now = absurd (false≢true now)
  reaching_same frame below (instruction.Simple (simple.Object i)) now = absurd (false≢true now)
  reaching_same frame below (instruction.Branch how target) now = absurd (false≢true now)
  reaching_same frame below (instruction.Table w) now = absurd (false≢true now)
  reaching_same frame below (instruction.Lookup w) now = absurd (false≢true now)
  reaching_same frame below (instruction.Constant c) now = absurd (false≢true now)
  reaching_same frame below (instruction.Field how r) now = absurd (false≢true now)
  reaching_same frame below (instruction.Class how name) now = absurd (false≢true now)
  reaching_same frame below (instruction.MultiNewArray dimensions name) now = absurd (false≢true now)

  instruction_same : (frame : MethodFrame) (below : List Frame) (i : Instruction) (d : FrameDecision) → calls_or_returns (Some i) ≡ true → Same (instruction_decision program limits s t thread frame below i d) (instruction_decision program limits made t thread frame below i d)
  instruction_same frame below i (frame_decided.Does act) now = λ is. refl
  instruction_same frame below i (frame_decided.Throws class) now = never _ _ (throws_not_local limits s thread class)
  instruction_same frame below i (frame_decided.Stops why) now = λ is. refl
  instruction_same frame below i frame_decided.Beyond now = reaching_same frame below i now

  frame_turn_same : (frame : MethodFrame) (below : List Frame) (o : Option Instruction) → calls_or_returns o ≡ true → Same (frame_turn_decision program limits s t thread frame below o) (frame_turn_decision program limits made t thread frame below o)
  frame_turn_same frame below None now = λ is. refl
  frame_turn_same frame below (Some i) now = instruction_same frame below i (frame_decision frame.body i frame.activation) now

  frames_same : (start : Start) (frames : List Frame) → top_calls_or_returns frames ≡ true → Same (frames_decision program limits start s t thread frames) (frames_decision program limits start made t thread frames)
  frames_same start [] now = absurd (false≢true now)
  frames_same start (stack_frame.Initialisation class called ∷ below) now = absurd (false≢true now)
  frames_same start (stack_frame.Call frame ∷ below) now = frame_turn_same frame below (instruction_at frame) now

  started_same : (start : Start) (status : ThreadStatus) → status_calls_or_returns status thread ≡ true → Same (started_decision program limits start s t thread status) (started_decision program limits start made t thread status)
  started_same start over now = absurd (false≢true now)
  started_same start (unwinding e) now = absurd (false≢true now)
  started_same start (waiting w) now = absurd (false≢true now)
  started_same start executing now = frames_same start thread.frames now

  pub decided_same : (start : Start) → slice_get s.threads t ≡ Some thread → slice_get made.threads t ≡ Some thread → thread_calls_or_returns (slice_get s.threads t) ≡ true → is_local_decision (decide program limits start s t) ≡ true → decide program limits start made t ≡ decide program limits start s t
  unfolding decide
  decided_same start was is now local =
      ap (thread_decision program limits start made t) is
      ∙ (started_same start (status_of_thread thread) (subst (λ o. thread_calls_or_returns o ≡ true) was now) (subst (λ o. is_local_decision (thread_decision program limits start s t o) ≡ true) was local)
      ∙ ap (thread_decision program limits start s t) (sym was))
