-- A property of each possible result of a decision's tests is one of the decision.
use Rattle.std.proofs.Common.{List, None, Option, Some, false, length, nat_le, nat_lt, not, refl, slice_get, sym, true, ℕ, ◌==◌, ◌∷◌, ◌≡◌}
use Rattle.std.proofs.lemmas.Bool.{cond_both}
use Rattle.std.specs.Prelude.{ℤ}
use Rattle.jvms_program.specs.Program.{method_at}
use Rattle.jvms_program.specs.declared.number.MethodNumber.{MethodNumber}
use Rattle.jvms_program.specs.declared.program.Body.{Body}
use Rattle.jvms_program.specs.declared.program.Class.{Class}
use Rattle.jvms_program.specs.declared.program.Method.{Method}
use Rattle.jvms_program.specs.declared.thrown.Thrown.{Thrown}
use Rattle.jvms_program.specs.declared.thrown.Thrown.TheVariants as thrown
use Rattle.jvms_machine.specs.Activations.{has_depth}
use Rattle.jvms_machine.specs.Arrays.{if_deep, with_int, with_object_of}
use Rattle.jvms_machine.specs.Calls.{called_decision, enter_decision, with_method, with_body}
use Rattle.jvms_machine.specs.Decisions.{TurnDecision}
use Rattle.jvms_machine.specs.Exceptions.{has_room_for, throws}
use Rattle.jvms_machine.specs.Heap.{class_name_at, next_reference}
use Rattle.jvms_machine.specs.Initialisation.{class_use_decision, requiring_class_in, begin_decision, constants_of, new_texts}
use Rattle.jvms_machine.specs.Monitors.{class_locking, monitor_entry, monitor_entry_by_hold, call_locking, object_locking}
use Rattle.jvms_machine.specs.State.{MethodFrame, Object, State, Thread, class_reference, monitor_at, object_at}
use Rattle.jvms_machine.specs.declared.action.Action.TheVariants as action
use Rattle.jvms_machine.specs.declared.action.Decision.TheVariants as decision
use Rattle.jvms_machine.specs.declared.action.Lock.{Lock}
use Rattle.jvms_machine.specs.declared.action.Lock.TheVariants as lock
use Rattle.jvms_machine.specs.declared.action.MonitorUse.{MonitorUse}
use Rattle.jvms_machine.specs.declared.machine.BadCause.TheVariants as cause
use Rattle.jvms_machine.specs.declared.machine.BlockedOn.TheVariants as blocked
use Rattle.jvms_machine.specs.declared.machine.Limits.{Limits}
use Rattle.jvms_machine.specs.declared.machine.Outcome.{Outcome}
use Rattle.jvms_machine.specs.declared.machine.Outcome.TheVariants as outcome
use Rattle.jvms_machine.specs.declared.state.Hold.{Hold}
use Rattle.jvms_machine.specs.declared.state.Initialisation.{Initialisation}
use Rattle.jvms_machine.specs.declared.state.Initialisation.TheVariants as initialisation
use Rattle.jvms_machine.specs.declared.value.Value.{Value}
use Rattle.jvms_machine.specs.declared.value.Value.TheVariants as value

-- A property of turns that aren't taken, of those that throw, and of those that begin an initialisation.
pub record IsOfTests (limits : Limits) (s : State) (thread : Thread) (P : TurnDecision → Type 0) : Type 0 where
  pub unmade : (o : Outcome) → P (decision.Stays o)
  pub thrown_by : (class : Thrown) → P (throws limits s thread class)
  pub begun_by : (class : ℕ) → slice_get s.initialisations class ≡ Some initialisation.NotBegun → P (decision.Applies (action.Begins class))

module _ (program : List Class) (limits : Limits) (s : State) (t : ℕ) (thread : Thread) (P : TurnDecision → Type 0) (tests : IsOfTests limits s thread P) where
  -- ---- Initialisation

  begin_has : (class : ℕ) → slice_get s.initialisations class ≡ Some initialisation.NotBegun → (o : Option Class) → P (begin_decision limits s thread class o)
  begin_has class begins None = tests.unmade (outcome.Bad cause.OutOfProfile)
  begin_has class begins (Some c) =
      cond_both (not (has_room_for (length (new_texts s.heap (constants_of c.fields))) limits s)) _ _ P
      (λ _. tests.thrown_by thrown.OutOfMemoryError)
      (λ _. cond_both (nat_le limits.frames (length thread.frames)) _ _ P (λ _. tests.thrown_by thrown.StackOverflowError) (λ _. tests.begun_by class begins))

  class_use_at_has : (class : ℕ) (o : Option Initialisation) (continued : TurnDecision) → slice_get s.initialisations class ≡ o → P continued → P (requiring_class_in program limits s t thread class o continued)
  class_use_at_has class None continued at has = tests.unmade (outcome.Bad cause.OutOfProfile)
  class_use_at_has class (Some initialisation.NotBegun) continued at has = begin_has class at (slice_get program class)
  class_use_at_has class (Some (initialisation.InProgress u)) continued at has =
      cond_both (u == t) continued _ P (λ _. has) (λ _. tests.unmade (outcome.Blocked (blocked.Initialisation class u)))
  class_use_at_has class (Some initialisation.Done) continued at has = has
  class_use_at_has class (Some initialisation.Erroneous) continued at has = tests.thrown_by thrown.NoClassDefFoundError

  pub class_use_has : (class : ℕ) (continued : TurnDecision) → P continued → P (class_use_decision program limits s t thread class continued)
  class_use_has class continued has = class_use_at_has class (slice_get s.initialisations class) continued refl has

  -- ---- Monitors

  monitor_entry_held_has : (r : ℕ) (o : Option Hold) (make : MonitorUse → TurnDecision) → ((monitor : MonitorUse) → P (make monitor)) → P (monitor_entry_by_hold limits s t thread r o make)
  monitor_entry_held_has r None make has = has (record { reference = r; outermost = true })
  monitor_entry_held_has r (Some h) make has =
      cond_both (not (h.owner == t)) _ _ P
      (λ _. tests.unmade (outcome.Blocked (blocked.Monitor r h.owner)))
      (λ _. cond_both (h.count == 4294967295) _ _ P (λ _. tests.thrown_by thrown.OutOfMemoryError) (λ _. has (record { reference = r; outermost = false })))

  pub monitor_entry_has : (r : ℕ) (make : MonitorUse → TurnDecision) → ((monitor : MonitorUse) → P (make monitor)) → P (monitor_entry limits s t thread r make)
  monitor_entry_has r make has = monitor_entry_held_has r (monitor_at s.monitors r) make has

  object_locking_has : (receiver : Option ℕ) (make : Lock → TurnDecision) → ((locked : Lock) → P (make locked)) → P (object_locking limits s t thread receiver make)
  object_locking_has None make has = tests.unmade (outcome.Bad cause.OutOfProfile)
  object_locking_has (Some r) make has = monitor_entry_has r (λ monitor. make (lock.Monitor monitor)) (λ monitor. has (lock.Monitor monitor))

  class_locking_has : (class : ℕ) (o : Option ℕ) (make : Lock → TurnDecision) → ((locked : Lock) → P (make locked)) → P (class_locking limits s t thread class o make)
  class_locking_has class (Some r) make has = monitor_entry_has r (λ monitor. make (lock.Monitor monitor)) (λ monitor. has (lock.Monitor monitor))
  class_locking_has class None make has =
      cond_both (has_room_for 1 limits s) _ _ P (λ _. has (lock.NewClass class (next_reference s.heap))) (λ _. tests.thrown_by thrown.OutOfMemoryError)

  call_locking_has : (n : MethodNumber) (m : Method) (receiver : Option ℕ) (make : Lock → TurnDecision) → ((locked : Lock) → P (make locked)) → P (call_locking program limits s t thread n m receiver make)
  call_locking_has n m receiver make has =
      cond_both (not m.flags.is_synchronized) _ _ P
      (λ _. has lock.Nothing)
      (λ _. cond_both m.flags.is_static _ _ P
      (λ _. class_locking_has n.class (class_reference s.heap (class_name_at program n.class)) make has)
      (λ _. object_locking_has receiver make has))

  -- ---- Calls

  with_body_has : (o : Option Body) (make : Body → TurnDecision) → ((body : Body) → P (make body)) → P (with_body o make)
  with_body_has None make has = tests.unmade (outcome.Bad cause.OutOfProfile)
  with_body_has (Some body) make has = has body

  enter_has : (n : MethodNumber) (m : Method) (receiver : Option ℕ) (arguments : ℕ) (body : Body) (make : Lock → TurnDecision) → ((locked : Lock) → P (make locked)) → P (enter_decision program limits s t thread n m receiver arguments body make)
  enter_has n m receiver arguments body make has =
      cond_both (nat_le limits.frames (length thread.frames)) _ _ P
      (λ _. tests.thrown_by thrown.StackOverflowError)
      (λ _. cond_both (nat_lt body.max_locals arguments) _ _ P (λ _. tests.unmade (outcome.Bad cause.Local)) (λ _. call_locking_has n m receiver make has))

  pub called_has : (n : MethodNumber) (m : Method) (receiver : Option ℕ) (arguments : ℕ) (native : TurnDecision) (make : Body → Lock → TurnDecision) → (m.flags.is_native ≡ true → P native) → ((body : Body) (locked : Lock) → P (make body locked)) → P (called_decision program limits s t thread n m receiver arguments native make)
  called_has n m receiver arguments native make native_has has =
      cond_both m.flags.is_abstract _ _ P
      (λ _. tests.thrown_by thrown.AbstractMethodError)
      (λ _. cond_both m.flags.is_native _ _ P
      native_has
      (λ _. with_body_has m.body (λ body. enter_decision program limits s t thread n m receiver arguments body (make body)) (λ body. enter_has n m receiver arguments body (make body) (has body))))

  numbered_by : (n : MethodNumber) (o : Option Method) (make : MethodNumber → Method → TurnDecision) → o ≡ method_at program n → ((m : Method) → method_at program n ≡ Some m → P (make n m)) → P (with_method program (Some n) make)
  numbered_by n None make e has = rw (← e) (tests.unmade (outcome.Bad cause.OutOfProfile))
  numbered_by n (Some m) make e has = rw (← e) (has m (sym e))

  pub numbered_has : (o : Option MethodNumber) (make : MethodNumber → Method → TurnDecision) → ((n : MethodNumber) (m : Method) → o ≡ Some n → method_at program n ≡ Some m → P (make n m)) → P (with_method program o make)
  numbered_has None make has = tests.unmade (outcome.Bad cause.OutOfProfile)
  numbered_has (Some n) make has = numbered_by n (method_at program n) make refl (λ m m_is. has n m refl m_is)

  -- ---- Operands

  pub if_deep_has : (frame : MethodFrame) (takes gives : ℕ) (rest : TurnDecision) → P rest → P (if_deep frame takes gives rest)
  if_deep_has frame takes gives rest has =
      cond_both (has_depth frame.body takes gives frame.activation) _ _ P (λ _. has) (λ _. tests.unmade (outcome.Bad cause.Depth))

  pub with_int_has : (operands : List Value) (rest : ℤ → TurnDecision) → ((n : ℤ) → P (rest n)) → P (with_int operands rest)
  with_int_has (value.Int n ∷ others) rest has = has n
  with_int_has _ rest has = tests.unmade (outcome.Bad cause.Kind)

  object_by : (r : ℕ) (o : Option Object) (rest : ℕ → Object → TurnDecision) → o ≡ object_at s.heap r → ((p : Object) → P (rest r p)) → P (with_object_of limits s thread (value.Reference r) rest)
  object_by r None rest e has = rw (← e) (tests.unmade (outcome.Bad cause.OutOfProfile))
  object_by r (Some o) rest e has = rw (← e) (has o)

  pub with_object_has : (v : Value) (rest : ℕ → Object → TurnDecision) → ((r : ℕ) (p : Object) → v ≡ value.Reference r → P (rest r p)) → P (with_object_of limits s thread v rest)
  with_object_has (value.Reference r) rest has = object_by r (object_at s.heap r) rest refl (λ p. has r p refl)
  with_object_has value.Null rest has = tests.thrown_by thrown.NullPointerException
  with_object_has _ rest has = tests.unmade (outcome.Bad cause.Kind)
