-- The enabledness of turns that begin with a shared test: of initialisation, monitors, calls or operands.
use Rattle.enabled_laws.proofs.Heaps.{ArePair, IsFound, class_kept, found}
use Rattle.enabled_laws.proofs.Kept.{may_enter, may_lock}
use Rattle.enabled_laws.proofs.Related.{AsBefore, Asked, IsFit, Related, Stays, WaitsNow, WasBad, on_either, on_unless, readiness, ready_or_bad, throws_on}
use Rattle.jvms_machine.specs.Activations.{has_depth}
use Rattle.jvms_machine.specs.Arrays.{if_deep, creation_decision, with_int, with_object_of}
use Rattle.jvms_machine.specs.Calls.{called_decision, enter_decision, with_method, with_body}
use Rattle.jvms_machine.specs.Decisions.{TurnDecision}
use Rattle.jvms_machine.specs.Exceptions.{has_room_for, throws}
use Rattle.jvms_machine.specs.Heap.{class_name_at, next_reference}
use Rattle.jvms_machine.specs.Initialisation.{class_use_decision, requiring_class_in, begin_decision, constants_of, new_texts}
use Rattle.jvms_machine.specs.Monitors.{class_locking, monitor_entry, monitor_entry_by_hold, call_locking, object_locking}
use Rattle.jvms_machine.specs.State.{IsReference, IsValue, MethodFrame, Object, State, Thread, class_of, class_reference, monitor_at, object_at}
use Rattle.jvms_machine.specs.declared.action.Lock.{Lock}
use Rattle.jvms_machine.specs.declared.action.MonitorUse.{MonitorUse}
use Rattle.jvms_machine.specs.declared.machine.Limits.{Limits}
use Rattle.jvms_machine.specs.declared.state.Hold.{Hold}
use Rattle.jvms_machine.specs.declared.state.Initialisation.{Initialisation}
use Rattle.jvms_machine.specs.declared.value.Value.{Value}
use Rattle.jvms_program.specs.Program.{method_at}
use Rattle.jvms_program.specs.Resolution.{fits}
use Rattle.jvms_program.specs.declared.number.MethodNumber.{MethodNumber}
use Rattle.jvms_program.specs.declared.program.Body.{Body}
use Rattle.jvms_program.specs.declared.program.Class.{Class}
use Rattle.jvms_program.specs.declared.program.Method.{Method}
use Rattle.jvms_program.specs.declared.thrown.Thrown.{Thrown}
use Rattle.std.proofs.Common.{Bool, List, None, Option, Some, ap, cond, false, is_some, length, nat_le, nat_lt, not, refl, slice_get, subst, sym, true, ℕ, ℤ, ◌==◌, ◌∙◌, ◌∷◌, ◌≡◌}
use Rattle.std.proofs.lemmas.Bool.{cond_both, false≢true}
use Rattle.std.specs.List.{AllByRecursion}
use Rattle.jvms_machine.specs.declared.state.Initialisation.TheVariants as initialisation
use Rattle.jvms_machine.specs.declared.action.Lock.TheVariants as lock
use Rattle.jvms_program.specs.declared.thrown.Thrown.TheVariants as thrown
use Rattle.jvms_machine.specs.declared.value.Value.TheVariants as value

module _ {Rel : Bool → Bool → Type 0} {program : List Class} {limits : Limits} {s after : State} {u : ℕ} (thread : Thread) (stays : Stays Rel program limits s after u) where
  abbrev pub Same : TurnDecision → TurnDecision → Type 0
  Same d e = Related Rel (readiness d) (readiness e)

  related_itself : (a : Option Bool) → Related Rel a a
  related_itself None = WasBad None
  related_itself (Some b) = IsFit b b (stays.relation.same b b refl)

  pub related_after : {a b c : Option Bool} → c ≡ b → Related Rel a b → Related Rel a c
  related_after {a = a} e same = subst (Related Rel a) (sym e) same

  pub same_on : {a b : Option Bool} → b ≡ a → Related Rel a b
  same_on {a = a} e = related_after e (related_itself a)

  -- Both turns are enabled under conditions that are related.
  pub related_both : {a b : Bool} {x y : Option Bool} → x ≡ Some a → y ≡ Some b → Rel a b → Related Rel x y
  related_both {a = a} {b = b} {y = y} first second is = subst (λ q. Related Rel q y) (sym first) (related_after second (IsFit a b is))

  pub same_when : (b : Bool) (x y z w : TurnDecision) → (b ≡ true → Same x z) → (b ≡ false → Same y w) → Same (cond b x y) (cond b z w)
  same_when true x y z w first second = first refl
  same_when false x y z w first second = second refl

  pub same_either : (b : Bool) (x y z w : TurnDecision) → Same x z → Same y w → Same (cond b x y) (cond b z w)
  same_either true x y z w first second = first
  same_either false x y z w first second = second

  pub thrown_same : (class : Thrown) → Same (throws limits s thread class) (throws limits after thread class)
  thrown_same class = same_on (throws_on limits after thread class ∙ sym (throws_on limits s thread class))

  -- ---- Initialisation

  begin_is_on : (r : State) (class : ℕ) (o : Option Class) → readiness (begin_decision limits r thread class o) ≡ ready_or_bad (is_some o)
  begin_is_on r class None = refl
  begin_is_on r class (Some c) =
      on_either (not (has_room_for (length (new_texts r.heap (constants_of c.fields))) limits r)) _ _ (throws_on limits r thread thrown.OutOfMemoryError)
      (on_either (nat_le limits.frames (length thread.frames)) _ _ (throws_on limits r thread thrown.StackOverflowError) refl)

  class_use_at_same : (class : ℕ) (o : Option Initialisation) (continued next : TurnDecision) → Same continued next → Same (requiring_class_in program limits s u thread class o continued) (requiring_class_in program limits after u thread class o next)
  class_use_at_same class None continued next same = same_on refl
  class_use_at_same class (Some initialisation.NotBegun) continued next same = same_on (begin_is_on after class (slice_get program class) ∙ sym (begin_is_on s class (slice_get program class)))
  class_use_at_same class (Some (initialisation.InProgress v)) continued next same = same_either (v == u) _ _ _ _ same (same_on refl)
  class_use_at_same class (Some initialisation.Done) continued next same = same
  class_use_at_same class (Some initialisation.Erroneous) continued next same = thrown_same thrown.NoClassDefFoundError

  -- A thread waits for a class that another thread initialises.
  waits_off : (st : State) (class v : ℕ) (continued : TurnDecision) → (v == u) ≡ false → readiness (requiring_class_in program limits st u thread class (Some (initialisation.InProgress v)) continued) ≡ Some false
  waits_off st class v continued other = cond_both (v == u) _ _ (λ (d : TurnDecision). readiness d ≡ Some false) (λ own. absurd (false≢true (sym other ∙ own))) (λ _. refl)

  waits_now : (o : Option Bool) → ((a : Bool) → Rel a false) → Related Rel o (Some false)
  waits_now None tells = WasBad (Some false)
  waits_now (Some a) tells = IsFit a false (tells a)

  asked_same : (class : ℕ) (o p : Option Initialisation) (continued next : TurnDecision) → Asked Rel u o p → Same continued next → Same (requiring_class_in program limits s u thread class o continued) (requiring_class_in program limits after u thread class p next)
  asked_same class o p continued next (AsBefore q) same = class_use_at_same class q continued next same
  asked_same class o p continued next (WaitsNow q v other tells) same =
      related_after (waits_off after class v next other) (waits_now (readiness (requiring_class_in program limits s u thread class q continued)) tells)

  pub class_use_same : (class : ℕ) (continued next : TurnDecision) → Same continued next → Same (class_use_decision program limits s u thread class continued) (class_use_decision program limits after u thread class next)
  class_use_same class continued next same = asked_same class (slice_get s.initialisations class) (slice_get after.initialisations class) continued next (stays.asked class) same

  -- ---- Monitors

  monitor_entry_is_on : (st : State) (r : ℕ) (o : Option Hold) (make : MonitorUse → TurnDecision) → ((monitor : MonitorUse) → readiness (make monitor) ≡ Some true) → readiness (monitor_entry_by_hold limits st u thread r o make) ≡ Some (may_enter u o)
  monitor_entry_is_on st r None make on = on (record { reference = r; outermost = true })
  monitor_entry_is_on st r (Some h) make on =
      on_unless (h.owner == u) _ _ refl
      (on_either (h.count == 4294967295) _ _ (throws_on limits st thread thrown.OutOfMemoryError) (on (record { reference = r; outermost = false })))

  pub monitor_entry_same : (r : ℕ) (make : MonitorUse → TurnDecision) → ((monitor : MonitorUse) → readiness (make monitor) ≡ Some true) → Same (monitor_entry limits s u thread r make) (monitor_entry limits after u thread r make)
  monitor_entry_same r make on =
      related_both (monitor_entry_is_on s r (monitor_at s.monitors r) make on) (monitor_entry_is_on after r (monitor_at after.monitors r) make on) (stays.enters r)

  object_locking_same : (receiver : Option ℕ) (make : Lock → TurnDecision) → ((locked : Lock) → readiness (make locked) ≡ Some true) → Same (object_locking limits s u thread receiver make) (object_locking limits after u thread receiver make)
  object_locking_same None make on = same_on refl
  object_locking_same (Some r) make on = monitor_entry_same r (λ monitor. make (lock.Monitor monitor)) (λ monitor. on (lock.Monitor monitor))

  class_locking_is_on : (st : State) (class : ℕ) (o : Option ℕ) (make : Lock → TurnDecision) → ((locked : Lock) → readiness (make locked) ≡ Some true) → readiness (class_locking limits st u thread class o make) ≡ Some (may_lock u st.monitors o)
  class_locking_is_on st class (Some r) make on = monitor_entry_is_on st r (monitor_at st.monitors r) (λ monitor. make (lock.Monitor monitor)) (λ monitor. on (lock.Monitor monitor))
  class_locking_is_on st class None make on =
      on_either (has_room_for 1 limits st) _ _ (on (lock.NewClass class (next_reference st.heap))) (throws_on limits st thread thrown.OutOfMemoryError)

  call_locking_same : (n : MethodNumber) (m : Method) (receiver : Option ℕ) (make : Lock → TurnDecision) → ((locked : Lock) → readiness (make locked) ≡ Some true) → Same (call_locking program limits s u thread n m receiver make) (call_locking program limits after u thread n m receiver make)
  call_locking_same n m receiver make on =
      let name = class_name_at program n.class in
      same_either (not m.flags.is_synchronized) _ _ _ _ (same_on refl)
      (same_either m.flags.is_static _ _ _ _
      (related_both (class_locking_is_on s n.class (class_reference s.heap name) make on) (class_locking_is_on after n.class (class_reference after.heap name) make on) (stays.locks name))
      (object_locking_same receiver make on))

  -- ---- Calls

  with_body_same : (n : MethodNumber) (m : Method) (receiver : Option ℕ) (arguments : ℕ) (o : Option Body) (make : Body → Lock → TurnDecision) → ((body : Body) (locked : Lock) → readiness (make body locked) ≡ Some true) → Same (with_body o (λ body. enter_decision program limits s u thread n m receiver arguments body (make body))) (with_body o (λ body. enter_decision program limits after u thread n m receiver arguments body (make body)))
  with_body_same n m receiver arguments None make on = same_on refl
  with_body_same n m receiver arguments (Some body) make on =
      same_either (nat_le limits.frames (length thread.frames)) _ _ _ _ (thrown_same thrown.StackOverflowError)
      (same_either (nat_lt body.max_locals arguments) _ _ _ _ (same_on refl) (call_locking_same n m receiver (make body) (on body)))

  pub called_same : (n : MethodNumber) (m : Method) (receiver : Option ℕ) (arguments : ℕ) (native native_after : TurnDecision) (make : Body → Lock → TurnDecision) → Same native native_after → ((body : Body) (locked : Lock) → readiness (make body locked) ≡ Some true) → Same (called_decision program limits s u thread n m receiver arguments native make) (called_decision program limits after u thread n m receiver arguments native_after make)
  called_same n m receiver arguments native native_after make same on =
      same_either m.flags.is_abstract _ _ _ _ (thrown_same thrown.AbstractMethodError)
      (same_either m.flags.is_native _ _ _ _ same (with_body_same n m receiver arguments m.body make on))

  numbered_by : (n : MethodNumber) (o : Option Method) (make making : MethodNumber → Method → TurnDecision) → o ≡ method_at program n → ((m : Method) → Same (make n m) (making n m)) → Same (with_method program (Some n) make) (with_method program (Some n) making)
  numbered_by n None make making e same = rw (← e) (same_on refl)
  numbered_by n (Some m) make making e same = rw (← e) (same m)

  pub numbered_same : (o : Option MethodNumber) (make making : MethodNumber → Method → TurnDecision) → ((n : MethodNumber) (m : Method) → Same (make n m) (making n m)) → Same (with_method program o make) (with_method program o making)
  numbered_same None make making same = same_on refl
  numbered_same (Some n) make making same = numbered_by n (method_at program n) make making refl (same n)

  -- ---- Operands

  abbrev pub AreValues : List Value → Type 0
  AreValues vs = AllByRecursion (IsValue s.heap) vs

  abbrev pub IsPair : Object → Object → Type 0
  IsPair was now = ArePair program s.heap after.heap was now

  pub found_for : (r : ℕ) → IsReference s.heap r → IsFound program s.heap after.heap (object_at s.heap r) (object_at after.heap r)
  found_for r is = found program s.heap after.heap r is stays.heap stays.sound.objects_are stays.sound_after.objects_are

  pub if_deep_same : (frame : MethodFrame) (takes gives : ℕ) (rest rest_after : TurnDecision) → Same rest rest_after → Same (if_deep frame takes gives rest) (if_deep frame takes gives rest_after)
  if_deep_same frame takes gives rest rest_after same = same_either (has_depth frame.body takes gives frame.activation) _ _ _ _ same (same_on refl)

  pub if_deep_when : (frame : MethodFrame) (takes gives : ℕ) (rest rest_after : TurnDecision) → (has_depth frame.body takes gives frame.activation ≡ true → Same rest rest_after) → Same (if_deep frame takes gives rest) (if_deep frame takes gives rest_after)
  if_deep_when frame takes gives rest rest_after same = same_when (has_depth frame.body takes gives frame.activation) _ _ _ _ same (λ _. same_on refl)

  pub with_int_same : (operands : List Value) (rest rest_after : ℤ → TurnDecision) → ((n : ℤ) → Same (rest n) (rest_after n)) → Same (with_int operands rest) (with_int operands rest_after)
  with_int_same (value.Int n ∷ others) rest rest_after same = same n
  with_int_same _ rest rest_after same = same_on refl

  pub with_object_same : (v : Value) (rest rest_after : ℕ → Object → TurnDecision) → IsValue s.heap v → ((r : ℕ) (was now : Object) → v ≡ value.Reference r → IsPair was now → Same (rest r was) (rest_after r now)) → Same (with_object_of limits s thread v rest) (with_object_of limits after thread v rest_after)
  with_object_same (value.Reference r) rest rest_after is same =
      let f = found_for r is in
      rw f.was_is (rw f.now_is (same r f.was f.now refl f.pair))
  with_object_same value.Null rest rest_after is same = thrown_same thrown.NullPointerException
  with_object_same _ rest rest_after is same = same_on refl

  pub fits_same : (was now : Object) (name : List ℕ) → IsPair was now → fits program (class_of now) name ≡ fits program (class_of was) name
  fits_same was now name pair = ap (λ c. fits program c name) (class_kept was now pair.becomes)
