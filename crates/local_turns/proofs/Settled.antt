-- A turn of another thread keeps the classes that are initialised for a thread.
use Rattle.std.proofs.Common.{Bool, List, None, Option, Some, [], ap, arith, cond, count_by, eq-eqb, eqb, eqb-true, false, refl, slice_get, slice_set, subst, sym, true, ℕ, ◌+◌, ◌==◌, ◌∙◌, ◌∷◌, ◌≡◌, ⊎_elim}
use Rattle.std.proofs.lemmas.Bool.{cases_Bool, cases_eq, cond-false, cond-true}
use Rattle.jvms_machine.proofs.ListLaws.{count_by_cons, get_set_other, get_set_same}
use Rattle.jvms_machine.specs.Actions.{after_effect, applied_to, operands_of, put_field, put_static, with_class_constants, with_exception, with_lock, with_result, with_unlock}
use Rattle.jvms_machine.specs.Decisions.{TurnAction, TurnDecision}
use Rattle.jvms_machine.specs.Exceptions.{exception_of, raise_decision, throws}
use Rattle.jvms_machine.specs.Returns.{returns_to}
use Rattle.jvms_machine.specs.Start.{Start}
use Rattle.jvms_machine.specs.State.{Frame, MethodFrame, Sound, State, Thread, frames_in_progress, initialisation_frames, is_initialisation_of}
use Rattle.jvms_machine.specs.Turn.{decide, state_after, thread_decision, turn}
use Rattle.jvms_machine.specs.declared.action.Action.TheVariants as action
use Rattle.jvms_machine.specs.declared.action.Decision.TheVariants as decision
use Rattle.jvms_machine.specs.declared.action.Effect.{Effect}
use Rattle.jvms_machine.specs.declared.action.Effect.TheVariants as effect
use Rattle.jvms_machine.specs.declared.action.Exception.{Exception}
use Rattle.jvms_machine.specs.declared.action.Exception.TheVariants as exception
use Rattle.jvms_machine.specs.declared.action.Lock.{Lock}
use Rattle.jvms_machine.specs.declared.action.Lock.TheVariants as lock
use Rattle.jvms_machine.specs.declared.action.MonitorUse.{MonitorUse}
use Rattle.jvms_machine.specs.declared.machine.Limits.{Limits}
use Rattle.jvms_machine.specs.declared.state.Initialisation.{Initialisation}
use Rattle.jvms_machine.specs.declared.state.Initialisation.TheVariants as initialisation
use Rattle.jvms_machine.specs.declared.state.StackFrame.TheVariants as stack_frame
use Rattle.jvms_machine.specs.declared.value.Value.{Value}
use Rattle.jvms_program.specs.Program.{field_key_at}
use Rattle.jvms_program.specs.declared.key.FieldKey.{FieldKey}
use Rattle.jvms_program.specs.declared.program.Class.{Class}
use Rattle.jvms_program.specs.declared.thrown.Thrown.{Thrown}
use Rattle.turn_item_laws.proofs.DecisionWalks.{IsOfTests}
use Rattle.turn_item_laws.proofs.TurnWalks.{IsOfTurns, given_out_has}
use Rattle.local_turns.proofs.Same.{KeepsSettled}

-- ---- Which actions change what is initialised

lock_initialises : (program : List Class) (s : State) (t : ℕ) (locked : Lock) → (with_lock program s t locked).initialisations ≡ s.initialisations
lock_initialises program s t lock.Nothing = refl
lock_initialises program s t (lock.Monitor monitor) = refl
lock_initialises program s t (lock.NewClass class r) = refl

unlock_initialises : (s : State) (unlock : Option MonitorUse) → (with_unlock s unlock).initialisations ≡ s.initialisations
unlock_initialises s None = refl
unlock_initialises s (Some monitor) = refl

exception_initialises : (program : List Class) (s : State) (e : Exception) → (with_exception program s e).initialisations ≡ s.initialisations
exception_initialises program s (exception.New class) = refl
exception_initialises program s (exception.Existing r) = refl

constants_initialise : (s : State) (o : Option Class) → (with_class_constants s o).initialisations ≡ s.initialisations
constants_initialise s None = refl
constants_initialise s (Some c) = refl

result_initialises : (s : State) (t : ℕ) (result : Option Value) → (with_result s t result).initialisations ≡ s.initialisations
result_initialises s t result = of (t == 0)
  where
    of : (b : Bool) → (cond b (record s { result = result }) s).initialisations ≡ s.initialisations
    of true = refl
    of false = refl

field_initialises : (s : State) (r : ℕ) (v : Value) (o : Option FieldKey) → (put_field s r v o).initialisations ≡ s.initialisations
field_initialises s r v None = refl
field_initialises s r v (Some key) = refl

static_initialises : (s : State) (v : Value) (o : Option FieldKey) → (put_static s v o).initialisations ≡ s.initialisations
static_initialises s v None = refl
static_initialises s v (Some key) = refl

effect_initialises : (program : List Class) (s : State) (t : ℕ) (operands : List Value) (what : Effect (List ℕ)) → (after_effect program s t operands what).initialisations ≡ s.initialisations
effect_initialises program s t operands (effect.PutField r n v) = field_initialises s r v (field_key_at program n)
effect_initialises program s t operands (effect.PutStatic n v) = static_initialises s v (field_key_at program n)
effect_initialises program s t operands (effect.StoreElement r i v) = refl
effect_initialises program s t operands (effect.Creates what) = refl
effect_initialises program s t operands (effect.Prints what ends_line) = refl
effect_initialises program s t operands (effect.Locks monitor) = refl
effect_initialises program s t operands (effect.Unlocks monitor) = refl
effect_initialises program s t operands (effect.Starts r u) = refl
effect_initialises program s t operands (effect.Notifies r all) = refl
effect_initialises program s t operands _ = refl

-- ---- Classes that are done

-- A decision begins or fails only the initialisation of a class that isn't done.
abbrev IsOfOpen : List Initialisation → TurnDecision → Type 0
IsOfOpen classes (decision.Applies (action.Begins class)) = slice_get classes class ≡ Some initialisation.Done → ⊥
IsOfOpen classes (decision.Applies (action.FailsInitialisation class e last)) = slice_get classes class ≡ Some initialisation.Done → ⊥
IsOfOpen classes _ = Unit {0}

done_elsewhere : (classes : List Initialisation) (class c : ℕ) (i : Initialisation) → slice_get classes c ≡ Some initialisation.Done → (slice_get classes class ≡ Some initialisation.Done → ⊥) → slice_get (slice_set classes class i) c ≡ Some initialisation.Done
done_elsewhere classes class c i done opens =
    get_set_other classes class c i (λ same. opens (subst (λ k. slice_get classes k ≡ Some initialisation.Done) same done)) ∙ done

done_again : (classes : List Initialisation) (class c : ℕ) → slice_get classes c ≡ Some initialisation.Done → slice_get (slice_set classes class initialisation.Done) c ≡ Some initialisation.Done
done_again classes class c done =
    ⊎_elim
    (λ same. subst (λ k. slice_get (slice_set classes class initialisation.Done) k ≡ Some initialisation.Done) (sym same) (get_set_same classes class initialisation.Done initialisation.Done (subst (λ k. slice_get classes k ≡ Some initialisation.Done) same done)))
    (λ other. get_set_other classes class c initialisation.Done other ∙ done)
    (cases_eq c class)

action_keeps_done : (program : List Class) (start : Start) (s : State) (t : ℕ) (act : TurnAction) → IsOfOpen s.initialisations (decision.Applies act) → (c : ℕ) → slice_get s.initialisations c ≡ Some initialisation.Done → slice_get (applied_to program start s t act).initialisations c ≡ Some initialisation.Done
unfolding applied_to
action_keeps_done program start s t (action.Goes act) opens c done = done
action_keeps_done program start s t (action.Reaches what act) opens c done = ap (λ is. slice_get is c) (effect_initialises program s t (operands_of (slice_get s.threads t)) what) ∙ done
action_keeps_done program start s t (action.Begins class) opens c done =
    ap (λ is. slice_get (slice_set is class (initialisation.InProgress t)) c) (constants_initialise s (slice_get program class)) ∙ done_elsewhere s.initialisations class c (initialisation.InProgress t) done opens
action_keeps_done program start s t (action.Finishes class) opens c done = done_again s.initialisations class c done
action_keeps_done program start s t (action.Enters method body locked) opens c done = ap (λ is. slice_get is c) (lock_initialises program s t locked) ∙ done
action_keeps_done program start s t (action.Ends method result unlock) opens c done =
    ap (λ is. slice_get is c) (result_initialises _ t result ∙ unlock_initialises s unlock) ∙ done
action_keeps_done program start s t (action.Calls method body takes locked) opens c done = ap (λ is. slice_get is c) (lock_initialises program s t locked) ∙ done
action_keeps_done program start s t (action.Returns method result unlock) opens c done = ap (λ is. slice_get is c) (unlock_initialises s unlock) ∙ done
action_keeps_done program start s t (action.Initialises method body) opens c done = done
action_keeps_done program start s t (action.Throws r) opens c done = done
action_keeps_done program start s t (action.Catches r target) opens c done = done
action_keeps_done program start s t (action.Unwinds method last unlock) opens c done = ap (λ is. slice_get is c) (unlock_initialises s unlock) ∙ done
action_keeps_done program start s t (action.FailsToUnlock method e last) opens c done = ap (λ is. slice_get is c) (exception_initialises program s e) ∙ done
action_keeps_done program start s t (action.FailsInitialisation class e last) opens c done =
    ap (λ is. slice_get (slice_set is class initialisation.Erroneous) c) (exception_initialises program s e) ∙ done_elsewhere s.initialisations class c initialisation.Erroneous done opens
action_keeps_done program start s t (action.Waits w) opens c done = done
action_keeps_done program start s t (action.Retakes w) opens c done = done
action_keeps_done program start s t (action.Raises e) opens c done = ap (λ is. slice_get is c) (exception_initialises program s e) ∙ done
action_keeps_done program start s t (action.Fails e) opens c done = ap (λ is. slice_get is c) (exception_initialises program s e) ∙ done

decision_keeps_done : (program : List Class) (start : Start) (s : State) (t : ℕ) (d : TurnDecision) → IsOfOpen s.initialisations d → (c : ℕ) → slice_get s.initialisations c ≡ Some initialisation.Done → slice_get (state_after program start s t d).initialisations c ≡ Some initialisation.Done
decision_keeps_done program start s t (decision.Applies act) opens c done = action_keeps_done program start s t act opens c done
decision_keeps_done program start s t (decision.Stays o) opens c done = done

never_zero : (n : ℕ) → 1 + n ≡ 0 → ⊥
never_zero n is = absurd (omega arith)

begun_not_done : (o : Option Initialisation) → o ≡ Some initialisation.NotBegun → o ≡ Some initialisation.Done → ⊥
begun_not_done o begins done = subst IsBegun (sym begins ∙ done) tt
  where
    IsBegun : Option Initialisation → Type 0
    IsBegun (Some initialisation.NotBegun) = Unit {0}
    IsBegun _ = ⊥

raise_is_open : (classes : List Initialisation) (frames : List Frame) (e : Exception) → IsOfOpen classes (raise_decision frames e)
raise_is_open classes [] e = tt
raise_is_open classes (f ∷ below) e = tt

returns_are_open : (classes : List Initialisation) (f : MethodFrame) (below : List Frame) (result : Option Value) (unlock : Option MonitorUse) → IsOfOpen classes (returns_to f.method below result unlock)
returns_are_open classes f [] result unlock = tt
returns_are_open classes f (g ∷ below) result unlock = tt

module _ (program : List Class) (limits : Limits) (start : Start) (s : State) (t : ℕ) (sound : Sound program limits s) where
  module _ (thread : Thread) (there : slice_get s.threads t ≡ Some thread) where
    throws_is_open : (class : Thrown) → IsOfOpen s.initialisations (throws limits s thread class)
    unfolding throws
    throws_is_open class = raise_is_open s.initialisations thread.frames (exception_of limits s class)

    tests : IsOfTests limits s thread (IsOfOpen s.initialisations)
    tests = record { unmade = λ o. tt; thrown_by = throws_is_open; begun_by = λ class begins done. begun_not_done (slice_get s.initialisations class) begins done }

    -- A class whose initialisation is on top isn't done.
    top_not_done : (class : ℕ) (called : Bool) (below : List Frame) → thread.frames ≡ stack_frame.Initialisation class called ∷ below → slice_get s.initialisations class ≡ Some initialisation.Done → ⊥
    top_not_done class called below is done =
        let one : cond (eqb class class) 1 0 ≡ 1 = cond-true (eqb class class) 1 0 (eq-eqb class class refl) in
        let counted : count_by (is_initialisation_of class) (stack_frame.Initialisation class called ∷ below) ≡ cond (eqb class class) 1 0 + count_by (is_initialisation_of class) below = count_by_cons (is_initialisation_of class) (stack_frame.Initialisation class called) below in
        let frames : count_by (is_initialisation_of class) (stack_frame.Initialisation class called ∷ below) ≡ 0 =
        ap (count_by (is_initialisation_of class)) (sym is) ∙ (sym (ap (initialisation_frames class) there) ∙ (sound.initialised t class ∙ ap (frames_in_progress t) done)) in
        let some : 1 + count_by (is_initialisation_of class) below ≡ 0 = ap (λ k. k + count_by (is_initialisation_of class) below) (sym one) ∙ (sym counted ∙ frames) in
        never_zero (count_by (is_initialisation_of class) below) some

    turns : IsOfTurns program limits s t thread (λ joins accesses d. IsOfOpen s.initialisations d)
    turns =
        record {
          calls = λ frame below joins accesses top. record { of_tests = tests; calls = λ n body takes locked. tt; waits = λ w. tt; reached = λ what act next joined accessed. tt };
          actions = record { of_tests = tests; reached = λ what act is. tt; threw = λ r. tt };
          pops = record {
            unmade = λ o. tt;
            catches = λ r target. tt;
            returned = λ f below result unlock is. returns_are_open s.initialisations f below result unlock;
            unwinds = λ f below unlock is. tt;
            fails = λ f below is. tt;
            fails_initialisation = λ class called e below is done. top_not_done class called below is done;
          };
          goes = λ act. tt;
          enters = λ is n body locked. tt;
          initialises = λ n body. tt;
          finishes = λ c called below is class. tt;
          retakes = λ w. tt;
        }

    given_out_is_open : IsOfOpen s.initialisations (thread_decision program limits start s t (Some thread))
    given_out_is_open = given_out_has program limits start s t (λ joins accesses d. IsOfOpen s.initialisations d) thread turns thread.ended thread.pending thread.waits there refl

  thread_is_open : (o : Option Thread) → slice_get s.threads t ≡ o → IsOfOpen s.initialisations (thread_decision program limits start s t o)
  thread_is_open None there = tt
  thread_is_open (Some thread) there = given_out_is_open thread there

  decided_is_open : IsOfOpen s.initialisations (decide program limits start s t)
  unfolding decide
  decided_is_open = thread_is_open (slice_get s.threads t) refl

  turn_keeps_done : (c : ℕ) → slice_get s.initialisations c ≡ Some initialisation.Done → slice_get (turn program limits start s t).state.initialisations c ≡ Some initialisation.Done
  unfolding turn
  turn_keeps_done c done = decision_keeps_done program start s t (decide program limits start s t) decided_is_open c done

-- ---- Classes in progress

-- If the count of a class in progress by a thread is one, the class is in progress by it.
progress_of : (t : ℕ) (o : Option Initialisation) → frames_in_progress t o ≡ 1 → o ≡ Some (initialisation.InProgress t)
progress_of t None is = absurd (omega arith)
progress_of t (Some initialisation.NotBegun) is = absurd (omega arith)
progress_of t (Some initialisation.Done) is = absurd (omega arith)
progress_of t (Some initialisation.Erroneous) is = absurd (omega arith)
progress_of t (Some (initialisation.InProgress u)) is =
    ⊎_elim
    (λ (same : eqb u t ≡ true). ap (λ v. Some (initialisation.InProgress v)) (eqb-true u t same))
    (λ (other : eqb u t ≡ false). let none : 1 ≡ 0 = sym is ∙ cond-false (eqb u t) 1 0 other in absurd (omega arith))
    (cases_Bool (eqb u t))

own_progress : (t : ℕ) → frames_in_progress t (Some (initialisation.InProgress t)) ≡ 1
own_progress t = cond-true (eqb t t) 1 0 (eq-eqb t t refl)

module _ (program : List Class) (limits : Limits) (start : Start) (s : State) (t u : ℕ) (thread : Thread) (there : slice_get s.threads t ≡ Some thread) (still : slice_get (turn program limits start s u).state.threads t ≡ Some thread) (sound : Sound program limits s) (after : Sound program limits (turn program limits start s u).state) where
  progress_kept : (class : ℕ) → slice_get s.initialisations class ≡ Some (initialisation.InProgress t) → slice_get (turn program limits start s u).state.initialisations class ≡ Some (initialisation.InProgress t)
  progress_kept class at =
      progress_of t (slice_get (turn program limits start s u).state.initialisations class)
      (sym (after.initialised t class)
      ∙ (ap (initialisation_frames class) still
      ∙ (ap (initialisation_frames class) (sym there)
      ∙ (sound.initialised t class
      ∙ (ap (frames_in_progress t) at ∙ own_progress t)))))

  pub turn_keeps_settled : KeepsSettled t s (turn program limits start s u).state
  turn_keeps_settled class initialisation.Done at is = turn_keeps_done program limits start s u sound class at
  turn_keeps_settled class (initialisation.InProgress v) at is =
      progress_kept class (at ∙ ap (λ k. Some (initialisation.InProgress k)) is) ∙ ap (λ k. Some (initialisation.InProgress k)) (sym is)
  turn_keeps_settled class initialisation.NotBegun at is = absurd is
  turn_keeps_settled class initialisation.Erroneous at is = absurd is
