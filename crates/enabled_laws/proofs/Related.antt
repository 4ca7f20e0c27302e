-- The parts of a state on which a thread's turn depends, related to those of another state.
use Rattle.enabled_laws.proofs.Heaps.{Extends, IsSized}
use Rattle.enabled_laws.proofs.Kept.{is_over, may_enter, may_lock, may_retake}
use Rattle.jvms_machine.proofs.EffectSoundness.{depth_is}
use Rattle.jvms_machine.specs.Activations.{has_depth}
use Rattle.jvms_machine.specs.Decisions.{TurnDecision, outcome_of, unwound_outcome}
use Rattle.jvms_machine.specs.Exceptions.{exception_of, raise_decision, throws}
use Rattle.jvms_machine.specs.Heap.{value_of}
use Rattle.jvms_machine.specs.Places.{value_size}
use Rattle.jvms_machine.specs.State.{Frame, MethodFrame, Sound, State, Thread, class_reference, monitor_at, waits_for}
use Rattle.jvms_machine.specs.Status.{is_bad, is_enabled}
use Rattle.jvms_machine.specs.Threads.{thread_of}
use Rattle.jvms_machine.specs.declared.action.Exception.{Exception}
use Rattle.jvms_machine.specs.declared.machine.Limits.{Limits}
use Rattle.jvms_machine.specs.declared.machine.Outcome.{Outcome}
use Rattle.jvms_machine.specs.declared.state.Initialisation.{Initialisation}
use Rattle.jvms_machine.specs.declared.value.Value.{Value}
use Rattle.jvms_program.specs.Program.{IsProgram}
use Rattle.jvms_program.specs.declared.key.FieldKey.{FieldKey}
use Rattle.jvms_program.specs.declared.program.Class.{Class}
use Rattle.jvms_program.specs.declared.thrown.Thrown.{Thrown}
use Rattle.std.proofs.Common.{Bool, List, None, Option, Some, [], arith, cond, false, length, nat_le, not, refl, slice_get, true, ℕ, ◌+◌, ◌-◌, ◌==◌, ◌∷◌, ◌≡◌, ◌≤◌, ◌⊎◌}
use Rattle.std.proofs.lemmas.Bool.{and_from, le-leb, true≢false}
use Rattle.jvms_machine.specs.declared.state.Initialisation.TheVariants as initialisation
use Rattle.jvms_machine.specs.declared.value.Value.TheVariants as value

-- ---- Enabled decisions

-- Decides whether a turn with the outcome is enabled, unless it is Bad.
abbrev pub readiness_of : Outcome → Option Bool
readiness_of o = cond (is_bad o) None (Some (is_enabled o))

abbrev pub readiness : TurnDecision → Option Bool
readiness d = readiness_of (outcome_of d)

-- The readiness of a turn that is never blocked.
abbrev pub ready_or_bad : Bool → Option Bool
ready_or_bad b = cond b (Some true) None

pub on_either : (b : Bool) (x y : TurnDecision) → readiness x ≡ Some true → readiness y ≡ Some true → readiness (cond b x y) ≡ Some true
on_either true x y first second = first
on_either false x y first second = second

pub on_unless : (b : Bool) (x y : TurnDecision) → readiness x ≡ Some false → readiness y ≡ Some true → readiness (cond (not b) x y) ≡ Some b
on_unless true x y first second = second
on_unless false x y first second = first

pub on_if : (b : Bool) (x y : TurnDecision) → readiness x ≡ Some true → readiness y ≡ Some false → readiness (cond b x y) ≡ Some b
on_if true x y first second = first
on_if false x y first second = second

raise_on : (frames : List Frame) (e : Exception) → readiness (raise_decision frames e) ≡ Some true
raise_on [] e = refl
raise_on (f ∷ below) e = refl

pub on_or_bad : (b : Bool) (x y : TurnDecision) → readiness x ≡ Some true → readiness y ≡ None → readiness (cond b x y) ≡ ready_or_bad b
on_or_bad true x y first second = first
on_or_bad false x y first second = second

pub throws_on : (limits : Limits) (s : State) (thread : Thread) (class : Thrown) → readiness (throws limits s thread class) ≡ Some true
unfolding throws
throws_on limits s thread class = raise_on thread.frames (exception_of limits s class)

pub popped_on : (last : Bool) → readiness_of (unwound_outcome last) ≡ Some true
popped_on true = refl
popped_on false = refl

-- A value takes two slots at most. So there is room for it in place of an array and an index.
two_at_most : (v : Value) → value_size v ≤ 2
two_at_most (value.Int n) = omega arith
two_at_most (value.Long n) = omega arith
two_at_most value.Second = omega arith
two_at_most value.Null = omega arith
two_at_most (value.Reference r) = omega arith
two_at_most (value.ReturnAddress i) = omega arith
two_at_most value.Unset = omega arith

pub room_for_any : (frame : MethodFrame) (gives : ℕ) → has_depth frame.body 2 gives frame.activation ≡ true → length frame.activation.operands ≤ frame.body.max_stack → (v : Value) → has_depth frame.body 2 (value_size v) frame.activation ≡ true
room_for_any frame gives deep within v =
    let there = (depth_is frame 2 gives deep).there in
    and_from (nat_le 2 (length frame.activation.operands)) (nat_le (length frame.activation.operands - 2 + value_size v) frame.body.max_stack)
    (le-leb 2 (length frame.activation.operands) there)
    (le-leb (length frame.activation.operands - 2 + value_size v) frame.body.max_stack (omega (arith, two_at_most v)))

-- ---- The parts that stay for a thread

-- A relation between whether a thread is enabled before a turn and after it. Both are the same, or one implies the
-- other.
pub record IsRelation (Rel : Bool → Bool → Type 0) : Type 0 where
  pub same : (a b : Bool) → b ≡ a → Rel a b

-- A relation between the readiness of two turns. If the first isn't Bad, neither is the second, unless the first is
-- enabled and the relation allows anything after it.
pub data Related (Rel : Bool → Bool → Type 0) : Option Bool → Option Bool → Type 0 where
  WasBad : (o : Option Bool) → Related Rel None o
  IsFit : (a b : Bool) → Rel a b → Related Rel (Some a) (Some b)
  IsFree : (o : Option Bool) → ((b : Bool) → Rel true b) → Related Rel (Some true) o

module _ (Rel : Bool → Bool → Type 0) where
  pub related_enabled : (x y a b : Bool) → Related Rel (cond x None (Some a)) (cond y None (Some b)) → x ≡ false → Rel a b
  related_enabled true y a b is fit = absurd (true≢false fit)
  related_enabled false true a b (IsFree o free) fit = free b
  related_enabled false false a b (IsFit c d both) fit = both
  related_enabled false false a b (IsFree o free) fit = free b

  pub related_fit : (x y a b : Bool) → Related Rel (cond x None (Some a)) (cond y None (Some b)) → (a ≡ true → ((c : Bool) → Rel true c) → ⊥) → x ≡ false → y ≡ false
  related_fit true y a b is tells fit = absurd (true≢false fit)
  related_fit false true a b (IsFree o free) tells fit = absurd (tells refl free)
  related_fit false false a b is tells fit = refl

-- Decides whether a join of a thread may continue: the thread has ended, or none was started.
abbrev pub may_join : List Thread → Option ℕ → Bool
may_join threads None = true
may_join threads (Some v) = is_over (slice_get threads v)

-- A class's initialisation is unchanged, or thread u waits for it after the turn.
pub data Asked (Rel : Bool → Bool → Type 0) (u : ℕ) : Option Initialisation → Option Initialisation → Type 0 where
  AsBefore : (o : Option Initialisation) → Asked Rel u o o
  WaitsNow : (o : Option Initialisation) (v : ℕ) → (v == u) ≡ false → ((a : Bool) → Rel a false) → Asked Rel u o (Some (initialisation.InProgress v))

-- The parts of two states on which the turn of thread u depends are related.
pub record Stays (Rel : Bool → Bool → Type 0) (program : List Class) (limits : Limits) (s after : State) (u : ℕ) : Type 0 where
  pub relation : IsRelation Rel
  pub classes : IsProgram program
  pub heap : Extends s.heap after.heap
  pub statics : (key : FieldKey) → IsSized key (value_of key s.statics) (value_of key after.statics) ⊎ ((b : Bool) → Rel true b)
  pub sound : Sound program limits s
  pub sound_after : Sound program limits after
  pub asked : (class : ℕ) → Asked Rel u (slice_get s.initialisations class) (slice_get after.initialisations class)
  pub enters : (r : ℕ) → Rel (may_enter u (monitor_at s.monitors r)) (may_enter u (monitor_at after.monitors r))
  pub locks : (name : List ℕ) → Rel (may_lock u s.monitors (class_reference s.heap name)) (may_lock u after.monitors (class_reference after.heap name))
  pub joins : (r : ℕ) → Rel (may_join s.threads (thread_of s.threads r)) (may_join after.threads (thread_of after.threads r))
  pub retakes : (r : ℕ) → waits_for r (slice_get s.threads u) ≡ true → Rel (may_retake u s.waiters (monitor_at s.monitors r)) (may_retake u after.waiters (monitor_at after.monitors r))
