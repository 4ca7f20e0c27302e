-- The enabledness of turns that call a method.
use Rattle.enabled_laws.proofs.EnabledTests.{AreValues, IsPair, Same, class_use_same, called_same, found_for, numbered_same, same_either, same_on, thrown_same, related_after, related_both}
use Rattle.enabled_laws.proofs.Heaps.{class_kept}
use Rattle.enabled_laws.proofs.Kept.{is_over}
use Rattle.enabled_laws.proofs.Related.{Stays, may_join, on_either, on_if, readiness, ready_or_bad, throws_on}
use Rattle.jvms_file.specs.Descriptors.{parameter_units}
use Rattle.jvms_file.specs.Names.{same_text}
use Rattle.jvms_file.specs.declared.insn.Invoke.{Invoke}
use Rattle.jvms_machine.proofs.ListLaws.{all_at}
use Rattle.jvms_machine.specs.Activations.{has_depth}
use Rattle.jvms_machine.specs.Calls.{are_of_call, call_decision, invoke_decision, receiver_call_decision, receiver_of, resolved_call_decision, selected_method, selected_decision, static_call_decision, slots_of_call, wrong_receiver}
use Rattle.jvms_machine.specs.Decisions.{TurnDecision}
use Rattle.jvms_machine.specs.Fields.{reaches, next_action}
use Rattle.jvms_machine.specs.Natives.{native_of_class, object_printed, print_decision, value_printed}
use Rattle.jvms_machine.specs.Places.{whole_top}
use Rattle.jvms_machine.specs.State.{Activation, IsValue, MethodFrame, Object, State, Thread, array, class_object, class_of, instance, monitor_at, result_length, same_object, text}
use Rattle.jvms_machine.specs.Threads.{join_decision, start_decision, thread_native_decision, thread_of}
use Rattle.jvms_machine.specs.Waiting.{object_native_decision, owner_decision, waits_or_notifies}
use Rattle.jvms_machine.specs.declared.machine.Limits.{Limits}
use Rattle.jvms_machine.specs.declared.state.Hold.{Hold}
use Rattle.jvms_machine.specs.declared.value.Value.{Value}
use Rattle.jvms_program.specs.Resolution.{ResolvedMethod, fits, is_static_call, method_number, resolved_method}
use Rattle.jvms_program.specs.declared.number.MethodNumber.{MethodNumber}
use Rattle.jvms_program.specs.declared.program.Class.{Class}
use Rattle.jvms_program.specs.declared.program.Method.{Method}
use Rattle.jvms_program.specs.declared.program.MethodReference.{MethodReference}
use Rattle.jvms_program.specs.declared.thrown.Thrown.{Thrown}
use Rattle.std.proofs.Common.{Bool, IfSome, List, None, Option, Some, [], ap, codes, cond, false, get_or, length, ltb, ltb-true, nat_lt, not, refl, slice_get, subst, sym, true, ℕ, ◌&&◌, ◌<◌, ◌==◌, ◌∙◌, ◌∷◌, ◌≡◌}
use Rattle.std.proofs.lemmas.Option.{none-some, same_Some, slice_get-get_or}
use Rattle.std.specs.List.{position_or_len}
use Rattle.std.specs.Prelude.{Err, Ok, Result}
use Rattle.jvms_machine.specs.declared.action.Action.TheVariants as action
use Rattle.jvms_machine.specs.declared.machine.BlockedOn.TheVariants as blocked
use Rattle.jvms_machine.specs.declared.action.Decision.TheVariants as decision
use Rattle.jvms_machine.specs.declared.action.Effect.TheVariants as effect
use Rattle.jvms_file.specs.declared.insn.Invoke.TheVariants as invoke
use Rattle.jvms_machine.specs.declared.machine.Outcome.TheVariants as outcome
use Rattle.jvms_program.specs.declared.thrown.Thrown.TheVariants as thrown
use Rattle.jvms_machine.specs.declared.value.Value.TheVariants as value

module _ {Rel : Bool → Bool → Type 0} {program : List Class} {limits : Limits} {s after : State} {u : ℕ} (thread : Thread) (stays : Stays Rel program limits s after u) where
  -- ---- Native methods

  abbrev is_string : Object → Bool
  is_string (text units) = true
  is_string (array class elements) = false
  is_string (instance class fields) = false
  is_string (class_object name) = false

  string_kept : (was now : Object) → IsPair thread stays was now → is_string now ≡ is_string was
  string_kept (array class elements) now pair = ap is_string pair.becomes.1
  string_kept (instance class fields) now pair = ap is_string pair.becomes.1
  string_kept (text units) now pair = ap is_string pair.becomes
  string_kept (class_object name) now pair = ap is_string pair.becomes

  printed_is_on : (a : Activation) (takes : ℕ) (ends_line : Bool) (r : ℕ) (o : Object) → readiness (object_printed a takes ends_line r (Some o)) ≡ ready_or_bad (is_string o)
  printed_is_on a takes ends_line r (text units) = refl
  printed_is_on a takes ends_line r (array class elements) = refl
  printed_is_on a takes ends_line r (instance class fields) = refl
  printed_is_on a takes ends_line r (class_object name) = refl

  value_printed_same : (a : Activation) (takes : ℕ) (ends_line : Bool) (o : Option Value) → IfSome o (IsValue s.heap) → Same thread stays (value_printed s a takes ends_line o) (value_printed after a takes ends_line o)
  value_printed_same a takes ends_line (Some (value.Int n)) is = same_on thread stays refl
  value_printed_same a takes ends_line (Some (value.Long n)) is = same_on thread stays refl
  value_printed_same a takes ends_line (Some value.Null) is = same_on thread stays refl
  value_printed_same a takes ends_line (Some (value.Reference r)) is =
      let f = found_for thread stays r is in
      rw f.was_is (rw f.now_is (same_on thread stays (printed_is_on a takes ends_line r f.now ∙ ap ready_or_bad (string_kept f.was f.now f.pair) ∙ sym (printed_is_on a takes ends_line r f.was))))
  value_printed_same a takes ends_line _ is = same_on thread stays refl

  whole_is_value : (operands : List Value) → AreValues thread stays operands → IfSome (whole_top operands) (IsValue s.heap)
  whole_is_value [] are = tt
  whole_is_value (value.Second ∷ value.Long n ∷ others) are = tt
  whole_is_value (value.Second ∷ _) are = tt
  whole_is_value (value.Long n ∷ others) are = tt
  whole_is_value (value.Int n ∷ others) are = tt
  whole_is_value (value.Null ∷ others) are = tt
  whole_is_value (value.Reference r ∷ others) are = are.0
  whole_is_value (value.ReturnAddress i ∷ others) are = tt
  whole_is_value (value.Unset ∷ others) are = tt

  print_same : (a : Activation) (takes : ℕ) (m : Method) → AreValues thread stays a.operands → Same thread stays (print_decision s a takes m) (print_decision after a takes m)
  print_same a takes m are =
      same_either thread stays (same_text m.name (codes "println") && same_text m.descriptor (codes "()V")) _ _ _ _ (same_on thread stays refl)
      (value_printed_same a takes (same_text m.name (codes "println")) (whole_top a.operands) (whole_is_value a.operands are))

  start_on : (st : State) (a : Activation) (r : ℕ) (o : Option ℕ) → readiness (start_decision limits st thread a r o) ≡ Some true
  start_on st a r (Some v) = throws_on limits st thread thrown.IllegalThreadStateException
  start_on st a r None = on_either (nat_lt (length st.threads) limits.threads) _ _ refl (throws_on limits st thread thrown.OutOfMemoryError)

  -- The thread that was started of an object exists.
  started_within : (threads : List Thread) (r v : ℕ) → thread_of threads r ≡ Some v → v < length threads
  started_within threads r v started = within (ltb k (length threads)) refl started
    where
      k : ℕ
      k = position_or_len (λ (other : Thread). same_object other.object (Some r)) threads

      within : (b : Bool) → ltb k (length threads) ≡ b → cond b (Some k) None ≡ Some v → v < length threads
      within true less is = subst (λ n. n < length threads) (same_Some k v is) (ltb-true k (length threads) less)
      within false less is = absurd (none-some v is)

  join_by : (st : State) (a : Activation) (v : ℕ) (o : Option Thread) → v < length st.threads → o ≡ slice_get st.threads v → readiness (join_decision st a (Some v)) ≡ Some (is_over o)
  join_by st a v None within e = absurd (none-some (get_or st.threads v thread) (e ∙ slice_get-get_or st.threads v thread within))
  join_by st a v (Some other) within e = rw (← e) (on_if other.ended (reaches (effect.Joins v) (next_action 1 a)) (decision.Stays (outcome.Blocked (blocked.Join v))) refl refl)

  join_is_on : (st : State) (a : Activation) (r : ℕ) (o : Option ℕ) → thread_of st.threads r ≡ o → readiness (join_decision st a o) ≡ Some (may_join st.threads o)
  join_is_on st a r None started = refl
  join_is_on st a r (Some v) started = join_by st a v (slice_get st.threads v) (started_within st.threads r v started) refl

  thread_native_same : (a : Activation) (m : Method) (operands : List Value) → Same thread stays (thread_native_decision limits s thread a m operands) (thread_native_decision limits after thread a m operands)
  thread_native_same a m (value.Reference r ∷ others) =
      same_either thread stays (same_text m.name (codes "start")) _ _ _ _
      (same_on thread stays (start_on after a r (thread_of after.threads r) ∙ sym (start_on s a r (thread_of s.threads r))))
      (related_both thread stays (join_is_on s a r (thread_of s.threads r) refl) (join_is_on after a r (thread_of after.threads r) refl) (stays.joins r))
  thread_native_same a m _ = same_on thread stays refl

  owned_on : (st : State) (o : Option Hold) (make : ℕ → TurnDecision) → ((count : ℕ) → readiness (make count) ≡ Some true) → readiness (owner_decision limits st u thread o make) ≡ Some true
  owned_on st None make on = throws_on limits st thread thrown.IllegalMonitorStateException
  owned_on st (Some h) make on = on_either (h.owner == u) _ _ (on h.count) (throws_on limits st thread thrown.IllegalMonitorStateException)

  waits_or_notifies_on : (a : Activation) (m : Method) (r count : ℕ) → readiness (waits_or_notifies a m r count) ≡ Some true
  waits_or_notifies_on a m r count = on_either (same_text m.name (codes "wait")) _ _ refl refl

  object_native_same : (a : Activation) (m : Method) (operands : List Value) → Same thread stays (object_native_decision limits s u thread a m operands) (object_native_decision limits after u thread a m operands)
  object_native_same a m (value.Reference r ∷ others) =
      same_on thread stays (owned_on after (monitor_at after.monitors r) (waits_or_notifies a m r) (waits_or_notifies_on a m r)
      ∙ sym (owned_on s (monitor_at s.monitors r) (waits_or_notifies a m r) (waits_or_notifies_on a m r)))
  object_native_same a m _ = same_on thread stays refl

  native_same : (a : Activation) (takes : ℕ) (m : Method) (o : Option Class) → AreValues thread stays a.operands → Same thread stays (native_of_class limits s u thread a takes m o) (native_of_class limits after u thread a takes m o)
  native_same a takes m None are = same_on thread stays refl
  native_same a takes m (Some c) are =
      same_either thread stays (same_text c.name (codes "java/io/PrintStream")) _ _ _ _ (print_same a takes m are)
      (same_either thread stays (same_text c.name (codes "java/lang/Thread")) _ _ _ _ (thread_native_same a m a.operands)
      (same_either thread stays (same_text c.name (codes "java/lang/Object")) _ _ _ _ (object_native_same a m a.operands) (thrown_same thread stays thrown.UnsatisfiedLinkError)))

  -- ---- The four calls

  call_same : (a : Activation) (receiver : Option ℕ) (takes : ℕ) (n : MethodNumber) (m : Method) → AreValues thread stays a.operands → Same thread stays (call_decision program limits s u thread a receiver takes n m) (call_decision program limits after u thread a receiver takes n m)
  call_same a receiver takes n m are =
      called_same thread stays n m receiver takes _ _ (λ body locked. decision.Applies (action.Calls n body takes locked)) (native_same a takes m (slice_get program n.class) are) (λ body locked. refl)

  static_call_same : (a : Activation) (takes : ℕ) (f : ResolvedMethod) → AreValues thread stays a.operands → Same thread stays (static_call_decision program limits s u thread a takes f) (static_call_decision program limits after u thread a takes f)
  static_call_same a takes f are =
      numbered_same thread stays (method_number program f) _ _ (λ n m. class_use_same thread stays n.class _ _ (call_same a None takes n m are))

  selected_same : (a : Activation) (q takes : ℕ) (o : Option ResolvedMethod) → AreValues thread stays a.operands → Same thread stays (selected_decision program limits s u thread a q takes o) (selected_decision program limits after u thread a q takes o)
  selected_same a q takes None are = thrown_same thread stays thrown.AbstractMethodError
  selected_same a q takes (Some f) are =
      numbered_same thread stays (method_number program f) (call_decision program limits s u thread a (Some q) takes) (call_decision program limits after u thread a (Some q) takes) (λ n m. call_same a (Some q) takes n m are)

  wrong_receiver_same : (how : Invoke) → Same thread stays (wrong_receiver limits s thread how) (wrong_receiver limits after thread how)
  wrong_receiver_same invoke.Interface = thrown_same thread stays thrown.IncompatibleClassChangeError
  wrong_receiver_same invoke.Static = same_on thread stays refl
  wrong_receiver_same invoke.Virtual = same_on thread stays refl
  wrong_receiver_same invoke.Special = same_on thread stays refl

  -- The decision on a call for an object of a class.
  abbrev for_class : State → MethodFrame → Invoke → MethodReference → ResolvedMethod → ℕ → List ℕ → TurnDecision
  for_class st frame how r f q c =
      cond (fits program c f.class.name) (selected_decision program limits st u thread frame.activation q (slots_of_call how r.method_type) (selected_method program frame how r c f)) (wrong_receiver limits st thread how)

  for_class_same : (frame : MethodFrame) (how : Invoke) (r : MethodReference) (f : ResolvedMethod) (q : ℕ) (c : List ℕ) → AreValues thread stays frame.activation.operands → Same thread stays (for_class s frame how r f q c) (for_class after frame how r f q c)
  for_class_same frame how r f q c are =
      same_either thread stays (fits program c f.class.name) _ _ _ _ (selected_same frame.activation q (slots_of_call how r.method_type) (selected_method program frame how r c f) are) (wrong_receiver_same how)

  receiver_call_same : (frame : MethodFrame) (how : Invoke) (r : MethodReference) (f : ResolvedMethod) (o : Option Value) → AreValues thread stays frame.activation.operands → ((v : Value) → o ≡ Some v → IsValue s.heap v) → Same thread stays (receiver_call_decision program limits s u thread frame how r f o) (receiver_call_decision program limits after u thread frame how r f o)
  receiver_call_same frame how r f (Some (value.Reference q)) are is =
      let p = found_for thread stays q (is (value.Reference q) refl) in
      rw p.was_is (rw p.now_is
      (related_after thread stays (ap (λ (c : List ℕ). readiness (for_class after frame how r f q c)) (class_kept p.was p.now p.pair.becomes)) (for_class_same frame how r f q (class_of p.was) are)))
  receiver_call_same frame how r f (Some value.Null) are is = thrown_same thread stays thrown.NullPointerException
  receiver_call_same frame how r f _ are is = same_on thread stays refl

  resolved_call_same : (frame : MethodFrame) (how : Invoke) (r : MethodReference) (o : Result ResolvedMethod Thrown) → AreValues thread stays frame.activation.operands → Same thread stays (resolved_call_decision program limits s u thread frame how r o) (resolved_call_decision program limits after u thread frame how r o)
  resolved_call_same frame how r (Err class) are = thrown_same thread stays class
  resolved_call_same frame how r (Ok f) are =
      same_either thread stays (is_static_call how) _ _ _ _ (static_call_same frame.activation (slots_of_call how r.method_type) f are)
      (receiver_call_same frame how r f (receiver_of r.method_type frame.activation.operands) are
      (λ v at. all_at (IsValue s.heap) frame.activation.operands (parameter_units r.method_type) v at are))

  pub invoke_same : (frame : MethodFrame) (how : Invoke) (r : MethodReference) → AreValues thread stays frame.activation.operands → Same thread stays (invoke_decision program limits s u thread frame how r) (invoke_decision program limits after u thread frame how r)
  unfolding invoke_decision
  invoke_same frame how r are =
      same_either thread stays (not (has_depth frame.body (slots_of_call how r.method_type) (result_length r.method_type.result) frame.activation)) _ _ _ _ (same_on thread stays refl)
      (same_either thread stays (not (are_of_call how r.method_type frame.activation.operands)) _ _ _ _ (same_on thread stays refl)
      (resolved_call_same frame how r (resolved_method program (is_static_call how) r) are))
