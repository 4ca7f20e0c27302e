-- A call that returns joins the thread that the states determine.
use Rattle.std.proofs.Common.{Bool, List, None, Option, Some, [], ap, codes, cond, false, length, nat_lt, not, option_and_then, refl, slice_get, subst, sym, true, ℕ, ◌&&◌, ◌==◌, ◌∙◌, ◌∷◌, ◌≡◌}
use Rattle.std.proofs.lemmas.Bool.{cond-false, cond-true, cond_both}
use Rattle.std.proofs.lemmas.Option.{same_Some}
use Rattle.std.specs.List.{filter}
use Rattle.std.specs.Prelude.{Err, Ok, Result}
use Rattle.jvms_file.specs.Descriptors.{parameter_units}
use Rattle.jvms_file.specs.Names.{same_text}
use Rattle.jvms_file.specs.declared.insn.Invoke.{Invoke}
use Rattle.jvms_file.specs.declared.insn.Invoke.TheVariants as invoke
use Rattle.jvms_program.specs.Program.{method_at}
use Rattle.jvms_program.specs.Resolution.{ResolvedMethod, fits, is_static_call, method_number, resolved_method}
use Rattle.jvms_program.specs.declared.number.MethodNumber.{MethodNumber}
use Rattle.jvms_program.specs.declared.program.Class.{Class}
use Rattle.jvms_program.specs.declared.program.Instruction.TheVariants as instruction
use Rattle.jvms_program.specs.declared.program.Method.{Method}
use Rattle.jvms_program.specs.declared.program.MethodReference.{MethodReference}
use Rattle.jvms_program.specs.declared.thrown.Thrown.{Thrown}
use Rattle.jvms_program.specs.declared.thrown.Thrown.TheVariants as thrown
use Rattle.jvms_machine.specs.Actions.{effect_items}
use Rattle.jvms_machine.specs.Activations.{has_depth}
use Rattle.jvms_machine.specs.Calls.{are_of_call, call_decision, invoke_decision, object_call_decision, receiver_call_decision, receiver_of, resolved_call_decision, selected_method, selected_decision, static_call_decision, slots_of_call, wrong_receiver}
use Rattle.jvms_machine.specs.Decisions.{TurnDecision, never_seen}
use Rattle.jvms_machine.specs.Fields.{reaches, next_action}
use Rattle.jvms_machine.specs.Natives.{native_of_class, object_printed, print_decision, prints, value_printed}
use Rattle.jvms_machine.specs.Places.{whole_top}
use Rattle.jvms_machine.specs.State.{Frame, MethodFrame, Object, State, Thread, array, class_object, class_of, instance, monitor_at, object_at, result_length, text}
use Rattle.jvms_machine.specs.Steps.{instruction_at}
use Rattle.jvms_machine.specs.Threads.{join_decision, start_decision, thread_native_decision, thread_of}
use Rattle.jvms_machine.specs.Waiting.{object_native_decision, owner_decision, waits_or_notifies}
use Rattle.jvms_machine.specs.declared.action.Action.TheVariants as action
use Rattle.jvms_machine.specs.declared.action.Decision.TheVariants as decision
use Rattle.jvms_machine.specs.declared.action.Effect.{Effect}
use Rattle.jvms_machine.specs.declared.action.Effect.TheVariants as effect
use Rattle.jvms_machine.specs.declared.action.Printed.{Printed}
use Rattle.jvms_machine.specs.declared.action.Printed.TheVariants as printed
use Rattle.jvms_machine.specs.declared.machine.BadCause.TheVariants as cause
use Rattle.jvms_machine.specs.declared.machine.BlockedOn.TheVariants as blocked
use Rattle.jvms_machine.specs.declared.machine.Limits.{Limits}
use Rattle.jvms_machine.specs.declared.machine.Outcome.TheVariants as outcome
use Rattle.jvms_machine.specs.declared.state.Hold.{Hold}
use Rattle.jvms_machine.specs.declared.state.StackFrame.TheVariants as stack_frame
use Rattle.jvms_machine.specs.declared.trace.Item.{Item}
use Rattle.jvms_machine.specs.declared.value.Value.{Value}
use Rattle.jvms_machine.specs.declared.value.Value.TheVariants as value
use Rattle.jvms_machine.proofs.CallDescriptors.{IsFound, called_has_type, numbered_has_descriptor, numbered_in_class, resolved_is_found, resolved_is_static, selected_is_found}
use Rattle.jvms_machine.proofs.ThreadChanges.{Stands, frames_are_stack}
use Rattle.turn_item_laws.proofs.CallLeaves.{AreKnown, IsOfCalls, IsOnTop}
use Rattle.turn_item_laws.proofs.DecisionWalks.{IsOfTests, class_use_has, called_has, numbered_has}
use Rattle.turn_item_laws.proofs.ThreadMethods.{is_of_object, is_start_or_join, is_the_join, is_thread_class, no_join_elsewhere, numbered_has_name, start_is_no_join}
use Rattle.turn_item_laws.specs.Accesses.{is_access}
use Rattle.turn_item_laws.specs.Joins.{ended_thread_of, has_ended, is_join, is_thread_join, join_items, joined_by, joined_for, joined_of, receiver_reference, reference_of_value, selected_for}
use Rattle.std.specs.Cmp.Lexicographic.{same_text as texts_are_same}

module _ (program : List Class) (limits : Limits) (s : State) (t : ℕ) (thread : Thread) (frame : MethodFrame) (joins : List Item) (P : TurnDecision → Type 0) (leaves : IsOfCalls program limits s t thread frame joins [] P) where
  call_tests : IsOfTests limits s thread P
  call_tests = leaves.of_tests

  call_unmade : P never_seen
  call_unmade = call_tests.unmade (outcome.Bad cause.OutOfProfile)

  goes_on_with : (what : Effect (List ℕ)) (takes : ℕ) → (AreKnown program limits s → filter is_join (effect_items program t what) ≡ joins) → filter is_access (effect_items program t what) ≡ [] → P (reaches what (next_action takes frame.activation))
  goes_on_with what takes joined quiet = leaves.reached what (next_action takes frame.activation) refl joined quiet

  -- ---- The methods of PrintStream

  -- The methods join no thread.
  abbrev JoinsNone : Type 0
  JoinsNone = AreKnown program limits s → joins ≡ []

  prints_has : (takes : ℕ) (what : Printed) (ends_line : Bool) → JoinsNone → P (prints frame.activation takes what ends_line)
  prints_has takes what ends_line none = goes_on_with (effect.Prints what ends_line) takes (λ known. sym (none known)) refl

  object_printed_has : (takes : ℕ) (ends_line : Bool) (r : ℕ) (o : Option Object) → JoinsNone → P (object_printed frame.activation takes ends_line r o)
  object_printed_has takes ends_line r None none = call_tests.unmade (outcome.Bad cause.Kind)
  object_printed_has takes ends_line r (Some (text units)) none = prints_has takes (printed.Text r) ends_line none
  object_printed_has takes ends_line r (Some (instance class fields)) none = call_tests.unmade (outcome.Bad cause.Kind)
  object_printed_has takes ends_line r (Some (array class elements)) none = call_tests.unmade (outcome.Bad cause.Kind)
  object_printed_has takes ends_line r (Some (class_object name)) none = call_tests.unmade (outcome.Bad cause.Kind)

  value_printed_has : (takes : ℕ) (ends_line : Bool) (o : Option Value) → JoinsNone → P (value_printed s frame.activation takes ends_line o)
  value_printed_has takes ends_line (Some (value.Int n)) none = prints_has takes (printed.Int n) ends_line none
  value_printed_has takes ends_line (Some (value.Long n)) none = prints_has takes (printed.Long n) ends_line none
  value_printed_has takes ends_line (Some value.Null) none = prints_has takes printed.Null ends_line none
  value_printed_has takes ends_line (Some (value.Reference r)) none = object_printed_has takes ends_line r (object_at s.heap r) none
  value_printed_has takes ends_line _ none = call_unmade

  print_has : (takes : ℕ) (m : Method) → JoinsNone → P (print_decision s frame.activation takes m)
  print_has takes m none =
      cond_both (same_text m.name (codes "println") && same_text m.descriptor (codes "()V")) _ _ P
      (λ _. prints_has takes printed.Nothing true none)
      (λ _. value_printed_has takes (same_text m.name (codes "println")) (whole_top frame.activation.operands) none)

  -- ---- The methods of Object

  -- Only the owner of the monitor may call them.
  owned_has : (o : Option Hold) (make : ℕ → TurnDecision) → ((count : ℕ) → P (make count)) → P (owner_decision limits s t thread o make)
  owned_has None make has = call_tests.thrown_by thrown.IllegalMonitorStateException
  owned_has (Some h) make has =
      cond_both (h.owner == t) _ _ P (λ _. has h.count) (λ _. call_tests.thrown_by thrown.IllegalMonitorStateException)

  waits_or_notifies_has : (m : Method) (r count : ℕ) → JoinsNone → P (waits_or_notifies frame.activation m r count)
  waits_or_notifies_has m r count none =
      cond_both (same_text m.name (codes "wait")) _ _ P
      (λ _. leaves.waits (record { reference = r; count = count }))
      (λ _. goes_on_with (effect.Notifies r (same_text m.name (codes "notifyAll"))) 1 (λ known. sym (none known)) refl)

  object_native_has : (m : Method) (operands : List Value) → JoinsNone → P (object_native_decision limits s t thread frame.activation m operands)
  object_native_has m (value.Reference r ∷ others) none =
      owned_has (monitor_at s.monitors r) (waits_or_notifies frame.activation m r) (λ count. waits_or_notifies_has m r count none)
  object_native_has m _ none = call_unmade

  -- ---- The methods of Thread

  start_has : (r : ℕ) (o : Option ℕ) → JoinsNone → P (start_decision limits s thread frame.activation r o)
  start_has r (Some u) none = call_tests.thrown_by thrown.IllegalThreadStateException
  start_has r None none =
      cond_both (nat_lt (length s.threads) limits.threads) _ _ P
      (λ _. goes_on_with (effect.Starts r (length s.threads)) 1 (λ known. sym (none known)) refl)
      (λ _. call_tests.thrown_by thrown.OutOfMemoryError)

  -- Returns the thread of a joined object, if it has ended.
  abbrev ended_of : Option ℕ → Option ℕ
  ended_of o = option_and_then (λ u. cond (has_ended (slice_get s.threads u)) (Some u) None) o

  waits_by : (u : ℕ) (o : Option Thread) → o ≡ slice_get s.threads u → (AreKnown program limits s → joins ≡ join_items t (ended_of (Some u))) → P (join_decision s frame.activation (Some u))
  waits_by u None e is = rw (← e) call_unmade
  waits_by u (Some other) e is =
      rw (← e) (cond_both other.ended _ _ P
      (λ has. goes_on_with (effect.Joins u) 1
      (λ known. sym (is known ∙ ap (λ o. join_items t (cond (has_ended o) (Some u) None)) (sym e) ∙ ap (λ (b : Bool). join_items t (cond b (Some u) None)) has)) refl)
      (λ _. call_tests.unmade (outcome.Blocked (blocked.Join u))))

  join_has : (o : Option ℕ) → (AreKnown program limits s → joins ≡ join_items t (ended_of o)) → P (join_decision s frame.activation o)
  join_has None is = goes_on_with effect.Nothing 1 (λ known. sym (is known)) refl
  join_has (Some u) is = waits_by u (slice_get s.threads u) refl is

  -- The joins of a native method of a class: none, unless it is `join` of `Thread`, whose receiver is the topmost
  -- operand.
  record AreJoinsOf (m : Method) (c : Class) : Type 0 where
    pub elsewhere : AreKnown program limits s → same_text c.name (codes "java/lang/Thread") ≡ false → joins ≡ []
    pub starting : AreKnown program limits s → same_text c.name (codes "java/lang/Thread") ≡ true → same_text m.name (codes "start") ≡ true → joins ≡ []
    pub joining : AreKnown program limits s → same_text c.name (codes "java/lang/Thread") ≡ true → same_text m.name (codes "start") ≡ false → (q : ℕ) (others : List Value) → frame.activation.operands ≡ value.Reference q ∷ others → joins ≡ join_items t (ended_thread_of s.threads q)

  thread_native_has : (m : Method) (c : Class) (operands : List Value) → AreJoinsOf m c → same_text c.name (codes "java/lang/Thread") ≡ true → frame.activation.operands ≡ operands → P (thread_native_decision limits s thread frame.activation m operands)
  thread_native_has m c (value.Reference q ∷ others) of_class named is =
      cond_both (same_text m.name (codes "start")) _ _ P
      (λ starts. start_has q (thread_of s.threads q) (λ known. of_class.starting known named starts))
      (λ waits. join_has (thread_of s.threads q) (λ known. of_class.joining known named waits q others is))
  thread_native_has m c _ of_class named is = call_unmade

  native_has : (takes : ℕ) (m : Method) (o : Option Class) → ((c : Class) → o ≡ Some c → AreJoinsOf m c) → P (native_of_class limits s t thread frame.activation takes m o)
  native_has takes m None of_class = call_unmade
  native_has takes m (Some c) of_class =
      let joins_of = of_class c refl in
      cond_both (same_text c.name (codes "java/io/PrintStream")) _ _ P
      (λ stream. print_has takes m
      (λ known. joins_of.elsewhere known (ap (λ name. same_text name (codes "java/lang/Thread")) (texts_are_same c.name (codes "java/io/PrintStream") (sym stream)))))
      (λ _. cond_both (same_text c.name (codes "java/lang/Thread")) _ _ P
      (λ named. thread_native_has m c frame.activation.operands joins_of named refl)
      (λ other. cond_both (same_text c.name (codes "java/lang/Object")) _ _ P
      (λ _. object_native_has m frame.activation.operands (λ known. joins_of.elsewhere known other))
      (λ _. call_tests.thrown_by thrown.UnsatisfiedLinkError)))

  -- ---- Calls

  call_has : (receiver : Option ℕ) (takes : ℕ) (n : MethodNumber) (m : Method) → (m.flags.is_native ≡ true → (c : Class) → slice_get program n.class ≡ Some c → AreJoinsOf m c) → P (call_decision program limits s t thread frame.activation receiver takes n m)
  call_has receiver takes n m of_class =
      called_has program limits s t thread P call_tests n m receiver takes _ (λ body locked. decision.Applies (action.Calls n body takes locked))
      (λ native. native_has takes m (slice_get program n.class) (of_class native))
      (λ body locked. leaves.calls n body takes locked)

  module _ (how : Invoke) (r : MethodReference) (at : instruction_at frame ≡ Some (instruction.Invoke how r)) (below : List Frame) (top : IsOnTop s t thread frame below) where
    -- The number of a found method has its class, its name and its descriptor.
    class_is_found : (found : ResolvedMethod) (n : MethodNumber) (c : Class) → IsFound program r.descriptor found → method_number program found ≡ Some n → slice_get program n.class ≡ Some c → c ≡ found.class
    class_is_found found n c is number c_is = same_Some c found.class (sym c_is ∙ numbered_in_class program r.descriptor found n is number)

    in_its_class : (found : ResolvedMethod) (n : MethodNumber) (m : Method) → IsFound program r.descriptor found → method_number program found ≡ Some n → method_at program n ≡ Some m → slice_get found.class.methods n.method ≡ Some m
    in_its_class found n m is number m_is =
        sym (ap (option_and_then (λ (d : Class). slice_get d.methods n.method)) (numbered_in_class program r.descriptor found n is number)) ∙ m_is

    -- A static call finds no native method of Thread.
    static_joins : (found : ResolvedMethod) (n : MethodNumber) (m : Method) (c : Class) → IsFound program r.descriptor found → found.method.flags.is_static ≡ true → joins ≡ [] → method_number program found ≡ Some n → slice_get program n.class ≡ Some c → AreJoinsOf m c
    static_joins found n m c is static none number c_is =
        record {
          elsewhere = λ known other. none;
          starting = λ known named starts. none;
          joining = λ known named waits q others operands.
              let c_found = class_is_found found n c is number c_is in
              let thread_named = ap (λ (d : Class). same_text d.name (codes "java/lang/Thread")) (sym c_found) ∙ named in
              let of_thread = is_thread_class program found.class known.0 is.class_is thread_named in
              let instance : found.method.flags.is_static ≡ false = is_of_object found.class is.place.0 found.method of_thread is.place.1 in
              absurd (cc);
        }

    static_has : (found : ResolvedMethod) → IsFound program r.descriptor found → found.method.flags.is_static ≡ true → joins ≡ [] → P (static_call_decision program limits s t thread frame.activation (slots_of_call how r.method_type) found)
    static_has found is static none =
        numbered_has program limits s t thread P call_tests (method_number program found) _
        (λ n m number m_is. class_use_has program limits s t thread P call_tests n.class _
        (call_has None (slots_of_call how r.method_type) n m (λ native c c_is. static_joins found n m c is static none number c_is)))

    -- A call that isn't static, with the method selected for its receiver.
    module _ (q : ℕ) (receiver_is : receiver_of r.method_type frame.activation.operands ≡ Some (value.Reference q)) where
      -- Without arguments the receiver is the topmost operand.
      top_is_receiver : (p : ℕ) (others : List Value) → parameter_units r.method_type ≡ 0 → frame.activation.operands ≡ value.Reference p ∷ others → p ≡ q
      top_is_receiver p others none operands =
          let here : slice_get frame.activation.operands 0 ≡ Some (value.Reference p) = ap (λ (vs : List Value). slice_get vs 0) operands in
          let there : slice_get frame.activation.operands 0 ≡ Some (value.Reference q) = subst (λ (k : ℕ). slice_get frame.activation.operands k ≡ Some (value.Reference q)) none receiver_is in
          let same : value.Reference p ≡ value.Reference q = same_Some (value.Reference p) (value.Reference q) (sym here ∙ there) in
          cc

      selected_joins : (found : ResolvedMethod) (n : MethodNumber) (m : Method) (c : Class) → IsFound program r.descriptor found → joins ≡ join_items t (cond (is_thread_join found) (ended_thread_of s.threads q) None) → method_number program found ≡ Some n → method_at program n ≡ Some m → m.flags.is_native ≡ true → slice_get program n.class ≡ Some c → AreJoinsOf m c
      selected_joins found n m c is joins_are number m_is native c_is =
          let c_found = class_is_found found n c is number c_is in
          let m_name = numbered_has_name program r.descriptor found n m is number m_is in
          let m_descriptor = numbered_has_descriptor program r.descriptor found n m is number m_is in
          let told = λ (b : Bool) (it : is_thread_join found ≡ b). joins_are ∙ ap (λ (a : Bool). join_items t (cond a (ended_thread_of s.threads q) None)) it in
          record {
            elsewhere = λ known other. told false (no_join_elsewhere found (ap (λ (d : Class). same_text d.name (codes "java/lang/Thread")) (sym c_found) ∙ other));
            starting = λ known named starts. told false (start_is_no_join found (sym m_name ∙ texts_are_same m.name (codes "start") (sym starts)));
            joining = λ known named waits p others operands.
                let thread_named = ap (λ (d : Class). same_text d.name (codes "java/lang/Thread")) (sym c_found) ∙ named in
                let of_thread = is_thread_class program found.class known.0 is.class_is thread_named in
                let method_is = is_start_or_join found.class n.method m of_thread (in_its_class found n m is number m_is) native in
                let stands : Stands program limits s t thread (stack_frame.Call frame ∷ below) = record { sound = known.1; given_out = top.given_out; awake = top.awake; frames_are = top.frames_are } in
                let type : m.method_type ≡ r.method_type = called_has_type program frame.method frame.body frame.activation.place how r n m known.0 (frames_are_stack stands).0.0.0 at m_is m_descriptor in
                let none : parameter_units r.method_type ≡ 0 = sym (ap parameter_units type) ∙ method_is.arguments in
                let its_join = is_the_join found thread_named (sym m_name ∙ method_is.name_is waits) (is.descriptor_is ∙ sym m_descriptor ∙ method_is.descriptor_is) in
                told true its_join ∙ ap (λ (k : ℕ). join_items t (ended_thread_of s.threads k)) (sym (top_is_receiver p others none operands));
          }

      selected_has : (o : Option ResolvedMethod) → ((f : ResolvedMethod) → o ≡ Some f → IsFound program r.descriptor f) → joins ≡ join_items t (joined_by s.threads q o) → P (selected_decision program limits s t thread frame.activation q (slots_of_call how r.method_type) o)
      selected_has None is joins_are = call_tests.thrown_by thrown.AbstractMethodError
      selected_has (Some found) is joins_are =
          numbered_has program limits s t thread P call_tests (method_number program found) _
          (λ n m number m_is. call_has (Some q) (slots_of_call how r.method_type) n m (λ native c c_is. selected_joins found n m c (is found refl) joins_are number m_is native c_is))

      wrong_receiver_has : (kind : Invoke) → P (wrong_receiver limits s thread kind)
      wrong_receiver_has invoke.Interface = call_tests.thrown_by thrown.IncompatibleClassChangeError
      wrong_receiver_has _ = call_tests.unmade (outcome.Bad cause.Kind)

      object_has : (found : ResolvedMethod) (o : Option Object) → IsFound program r.descriptor found → resolved_method program false r ≡ Ok found → joins ≡ join_items t (joined_of program s frame how r q o) → P (object_call_decision program limits s t thread frame how r found q o)
      object_has found None is resolved joins_are = call_unmade
      object_has found (Some o) is resolved joins_are =
          cond_both (fits program (class_of o) found.class.name) _ _ P
          (λ _. selected_has (selected_method program frame how r (class_of o) found) (λ f f_is. selected_is_found program frame how r (class_of o) r.descriptor found f is f_is)
          (joins_are ∙ ap (λ res. join_items t (joined_by s.threads q (selected_for program frame how r o res))) resolved))
          (λ _. wrong_receiver_has how)

    receiver_has : (found : ResolvedMethod) (o : Option Value) → receiver_of r.method_type frame.activation.operands ≡ o → IsFound program r.descriptor found → resolved_method program false r ≡ Ok found → joins ≡ join_items t (joined_for program s frame how r (option_and_then reference_of_value o)) → P (receiver_call_decision program limits s t thread frame how r found o)
    receiver_has found (Some (value.Reference q)) receiver_is is resolved joins_are = object_has q receiver_is found (object_at s.heap q) is resolved joins_are
    receiver_has found (Some value.Null) receiver_is is resolved joins_are = call_tests.thrown_by thrown.NullPointerException
    receiver_has found _ receiver_is is resolved joins_are = call_unmade

    resolved_has : (o : Result ResolvedMethod Thrown) → resolved_method program (is_static_call how) r ≡ o → joins ≡ join_items t (joined_for program s frame how r (receiver_reference how r frame.activation.operands)) → P (resolved_call_decision program limits s t thread frame how r o)
    resolved_has (Err class) resolved joins_are = call_tests.thrown_by class
    resolved_has (Ok found) resolved joins_are =
        let found_is = resolved_is_found program (is_static_call how) r found resolved in
        let with_receiver = λ (o : Option ℕ) (is : receiver_reference how r frame.activation.operands ≡ o). joins_are ∙ ap (λ k. join_items t (joined_for program s frame how r k)) is in
        let receiver = option_and_then reference_of_value (receiver_of r.method_type frame.activation.operands) in
        cond_both (is_static_call how) _ _ P
        (λ static. static_has found found_is (resolved_is_static program r found (ap (λ b. resolved_method program b r) (sym static) ∙ resolved))
        (with_receiver None (cond-true (is_static_call how) None receiver static)))
        (λ dynamic. receiver_has found (receiver_of r.method_type frame.activation.operands) refl found_is (ap (λ b. resolved_method program b r) (sym dynamic) ∙ resolved)
        (with_receiver receiver (cond-false (is_static_call how) None receiver dynamic)))

    pub invoke_has : joins ≡ join_items t (joined_for program s frame how r (receiver_reference how r frame.activation.operands)) → P (invoke_decision program limits s t thread frame how r)
    unfolding invoke_decision
    invoke_has joins_are =
        cond_both (not (has_depth frame.body (slots_of_call how r.method_type) (result_length r.method_type.result) frame.activation)) _ _ P
        (λ _. call_tests.unmade (outcome.Bad cause.Depth))
        (λ _. cond_both (not (are_of_call how r.method_type frame.activation.operands)) _ _ P
        (λ _. call_tests.unmade (outcome.Bad cause.Kind))
        (λ _. resolved_has (resolved_method program (is_static_call how) r) refl joins_are))
