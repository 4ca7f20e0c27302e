-- After a turn the lowest frame of each thread that has made its first call is a call, until the thread has ended.
use Rattle.std.proofs.Common.{Bool, List, None, Option, Some, [], ap, drop, false, refl, slice_get, subst, suc, sym, true, zero, ℕ, ⊎_elim, ◌==◌, ◌∙◌, ◌∷◌, ◌≡◌}
use Rattle.std.proofs.lemmas.Bool.{cond_both}
use Rattle.std.proofs.lemmas.Bool.Decides.{eqb_tells}
use Rattle.std.proofs.lemmas.Option.{none-some, same_Some}
use Rattle.jvms_program.specs.declared.program.Class.{Class}
use Rattle.jvms_program.specs.declared.thrown.Thrown.{Thrown}
use Rattle.jvms_machine.specs.Actions.{after_effect, applied_to, arguments_of, with_initialisation_frame, stack_after_return, thread_with_call, caught, changed_to, after_end, after_failure, first_arguments, first_called, thread_after_action, thread_with_initializer, initializer_called, operands_of, without_top, put_to_wait, with_pending, after_return, after_throw, stack_without_operands, stack_after_action, top_handling, unwound, after_wait, with_changed, with_class_constants, with_exception, with_lock, with_result, with_retaken, with_unlock, with_waiter}
use Rattle.jvms_machine.specs.Calls.{frame_of_call}
use Rattle.jvms_machine.specs.Decisions.{TurnAction, TurnDecision}
use Rattle.jvms_machine.specs.Exceptions.{exception_of, exception_reference, raise_decision, throws}
use Rattle.jvms_machine.specs.Monitors.{is_empty, locked_reference}
use Rattle.jvms_machine.specs.Opening.{opening}
use Rattle.jvms_machine.specs.Returns.{returns_to}
use Rattle.jvms_machine.specs.Start.{Start}
use Rattle.jvms_machine.specs.State.{Frame, MethodFrame, State, Thread, new_thread, status_by}
use Rattle.jvms_machine.specs.Turn.{decide, started_decision, state_after, thread_decision, turn}
use Rattle.jvms_machine.specs.declared.action.Action.TheVariants as action
use Rattle.jvms_machine.specs.declared.action.Decision.TheVariants as decision
use Rattle.jvms_machine.specs.declared.action.Exception.{Exception}
use Rattle.jvms_machine.specs.declared.action.FrameAction.{FrameAction}
use Rattle.jvms_machine.specs.declared.action.MonitorUse.{MonitorUse}
use Rattle.jvms_machine.specs.declared.machine.Limits.{Limits}
use Rattle.jvms_machine.specs.declared.state.StackFrame.TheVariants as stack_frame
use Rattle.jvms_machine.specs.declared.value.Value.{Value}
use Rattle.jvms_machine.proofs.ListLaws.{get_set_same}
use Rattle.turn_item_laws.proofs.DecisionWalks.{IsOfTests}
use Rattle.turn_item_laws.proofs.ThreadLaws.{AreThreadsGrown, affected_threads, constants_threads, exception_threads, grown_not, locked_threads, turn_keeps_others, turn_starts_new, unlocked_threads}
use Rattle.turn_item_laws.proofs.TurnWalks.{IsOfTurns, given_out_has}
use Rattle.turn_item_laws.specs.LowestCalls.{HasLowestCall, HaveLowestCalls, ends_in_call}

-- ---- The frames on which a turn's action is based

abbrev HasBelow : List Frame → Type 0
HasBelow [] = ⊥
HasBelow (f ∷ []) = ⊥
HasBelow (f ∷ g ∷ below) = Unit {0}

abbrev IsInitialisation : List Frame → Type 0
IsInitialisation [] = ⊥
IsInitialisation (stack_frame.Call f ∷ below) = ⊥
IsInitialisation (stack_frame.Initialisation class called ∷ below) = Unit {0}

-- The first call is made without a frame. A returning call is above another frame, and so is a frame that an exception
-- pops, unless it is the last. An initialisation finishes on top.
abbrev IsMadeOf : List Frame → TurnAction → Type 0
IsMadeOf frames (action.Enters method body locked) = frames ≡ []
IsMadeOf frames (action.Returns method result unlock) = HasBelow frames
IsMadeOf frames (action.Unwinds method last unlock) = last ≡ false → HasBelow frames
IsMadeOf frames (action.FailsToUnlock method e last) = last ≡ false → HasBelow frames
IsMadeOf frames (action.FailsInitialisation class e last) = last ≡ false → HasBelow frames
IsMadeOf frames (action.Finishes class) = IsInitialisation frames
IsMadeOf frames _ = Unit {0}

abbrev IsOf : List Frame → TurnDecision → Type 0
IsOf frames (decision.Applies act) = IsMadeOf frames act
IsOf frames (decision.Stays o) = Unit {0}

has_below : (frames below : List Frame) (f : Frame) → frames ≡ f ∷ below → is_empty below ≡ false → HasBelow frames
has_below frames [] f is some = absurd (cc)
has_below frames (g ∷ below) f is some = subst HasBelow (sym is) tt

raise_is : (all frames : List Frame) (e : Exception) → IsOf all (raise_decision frames e)
raise_is all [] e = tt
raise_is all (f ∷ below) e = tt

returns_is : (frames below : List Frame) (f : MethodFrame) (result : Option Value) (unlock : Option MonitorUse) → frames ≡ stack_frame.Call f ∷ below → IsOf frames (returns_to f.method below result unlock)
returns_is frames [] f result unlock is = tt
returns_is frames (g ∷ below) f result unlock is = subst HasBelow (sym is) tt

module _ (program : List Class) (limits : Limits) (start : Start) (s : State) (t : ℕ) (thread : Thread) where
  abbrev IsOfThread : TurnDecision → Type 0
  IsOfThread d = IsOf thread.frames d

  throws_is : (class : Thrown) → IsOfThread (throws limits s thread class)
  unfolding throws
  throws_is class = raise_is thread.frames thread.frames (exception_of limits s class)

  tests_are : IsOfTests limits s thread IsOfThread
  tests_are = record { unmade = λ o. tt; thrown_by = throws_is; begun_by = λ class begins. tt }

  turns_are : IsOfTurns program limits s t thread (λ joins accesses d. IsOfThread d)
  turns_are =
      record {
        calls = λ frame below joins accesses top. record { of_tests = tests_are; calls = λ n body takes locked. tt; waits = λ w. tt; reached = λ what act next joined accessed. tt };
        actions = record { of_tests = tests_are; reached = λ what act is. tt; threw = λ r. tt };
        pops = record {
          unmade = λ o. tt;
          catches = λ r target. tt;
          returned = λ f below result unlock is. returns_is thread.frames below f result unlock is;
          unwinds = λ f below unlock is some. has_below thread.frames below (stack_frame.Call f) is some;
          fails = λ f below is some. has_below thread.frames below (stack_frame.Call f) is some;
          fails_initialisation = λ class called e below is some. has_below thread.frames below (stack_frame.Initialisation class called) is some;
        };
        goes = λ act. tt;
        enters = λ is n body locked. is;
        initialises = λ n body. tt;
        finishes = λ c called below is class. subst IsInitialisation (sym is) tt;
        retakes = λ w. tt;
      }

-- ---- The lowest frame after actions

gone_on_ends : (act : FrameAction) (frames : List Frame) → ends_in_call frames ≡ true → ends_in_call (stack_after_action act frames) ≡ true
gone_on_ends act [] is = is
gone_on_ends act (stack_frame.Call f ∷ []) is = is
gone_on_ends act (stack_frame.Call f ∷ g ∷ below) is = is
gone_on_ends act (stack_frame.Initialisation class called ∷ below) is = is

begun_ends : (f : Frame) (frames : List Frame) → ends_in_call frames ≡ true → ends_in_call (f ∷ frames) ≡ true
begun_ends f [] is = absurd (cc)
begun_ends f (g ∷ below) is = is

given_ends : (takes : ℕ) (frames : List Frame) → ends_in_call frames ≡ true → ends_in_call (stack_without_operands takes frames) ≡ true
given_ends takes [] is = is
given_ends takes (stack_frame.Call f ∷ []) is = is
given_ends takes (stack_frame.Call f ∷ g ∷ below) is = is
given_ends takes (stack_frame.Initialisation class called ∷ below) is = is

initialising_ends : (frames : List Frame) → ends_in_call frames ≡ true → ends_in_call (initializer_called frames) ≡ true
initialising_ends [] is = is
initialising_ends (stack_frame.Call f ∷ below) is = is
initialising_ends (stack_frame.Initialisation class called ∷ []) is = is
initialising_ends (stack_frame.Initialisation class called ∷ g ∷ below) is = is

handling_ends : (r target : ℕ) (frames : List Frame) → ends_in_call frames ≡ true → ends_in_call (top_handling r target frames) ≡ true
handling_ends r target [] is = is
handling_ends r target (stack_frame.Call f ∷ []) is = is
handling_ends r target (stack_frame.Call f ∷ g ∷ below) is = is
handling_ends r target (stack_frame.Initialisation class called ∷ below) is = is

returned_ends : (result : Option Value) (frames : List Frame) → ends_in_call frames ≡ true → ends_in_call (stack_after_return result frames) ≡ true
returned_ends result [] is = is
returned_ends result (stack_frame.Call f ∷ []) is = is
returned_ends result (stack_frame.Call f ∷ g ∷ below) is = is
returned_ends result (stack_frame.Initialisation class called ∷ below) is = is

popped_ends : (frames : List Frame) → HasBelow frames → ends_in_call frames ≡ true → ends_in_call (drop 1 frames) ≡ true
popped_ends [] some is = absurd some
popped_ends (f ∷ []) some is = absurd some
popped_ends (f ∷ g ∷ below) some is = is

finished_ends : (frames : List Frame) → IsInitialisation frames → ends_in_call frames ≡ true → ends_in_call (drop 1 frames) ≡ true
finished_ends [] init is = absurd init
finished_ends (stack_frame.Call f ∷ below) init is = absurd init
finished_ends (stack_frame.Initialisation class called ∷ []) init is = absurd (cc)
finished_ends (stack_frame.Initialisation class called ∷ g ∷ below) init is = is

-- ---- The turn's own thread

module _ (program : List Class) (limits : Limits) (start : Start) (s : State) (t : ℕ) (thread : Thread) (there : slice_get s.threads t ≡ Some thread) (live : thread.ended ≡ false) (has : HasLowestCall thread) where
  abbrev HasOwn : State → Type 0
  HasOwn after = (v : Thread) → slice_get after.threads t ≡ Some v → HasLowestCall v

  own_has : (made : State) (change : Thread → Thread) → AreThreadsGrown s.threads made.threads → HasLowestCall (change thread) → HasOwn (with_changed made t change)
  own_has made change grown kept v at =
      let was = grown.same t thread there in
      let is : slice_get (with_changed made t change).threads t ≡ Some (change thread) =
      ap (λ o. slice_get (changed_to made.threads t change o) t) was ∙ get_set_same made.threads t thread (change thread) was in
      subst HasLowestCall (same_Some (change thread) v (sym is ∙ at)) kept

  -- A thread that has ended meets the condition.
  ended_has : (v : Thread) → v.ended ≡ true → HasLowestCall v
  ended_has v over made lives = absurd (cc)

  -- The condition holds with the frames of the same thread.
  lives_on : (frames : List Frame) → (ends_in_call thread.frames ≡ true → ends_in_call frames ≡ true) → thread.first_call_made ≡ true → ends_in_call frames ≡ true
  lives_on frames step made = step (has made live)

  unwound_has : (v : Thread) (last : Bool) → v.first_call_made ≡ thread.first_call_made → v.frames ≡ thread.frames → (last ≡ false → HasBelow thread.frames) → HasLowestCall (unwound last v)
  unwound_has v last first same some made lives =
      subst (λ (fs : List Frame). ends_in_call (drop 1 fs) ≡ true) (sym same) (popped_ends thread.frames (some lives) (has (sym first ∙ made) live))

  own_result : (made : State) (result : Option Value) → HasOwn made → HasOwn (with_result made t result)
  own_result made result own = cond_both (t == 0) (record made { result = result }) made HasOwn (λ _. own) (λ _. own)

  entered_ends : (f : MethodFrame) → thread.frames ≡ [] → ends_in_call (stack_frame.Call f ∷ thread.frames) ≡ true
  entered_ends f none = ap (λ (fs : List Frame). ends_in_call (stack_frame.Call f ∷ fs)) none

  action_has : (act : TurnAction) → IsMadeOf thread.frames act → HasOwn (applied_to program start s t act)
  unfolding applied_to
  action_has (action.Goes act) of =
      own_has s (thread_after_action act) (grown_not s.threads) (λ made lives. lives_on (stack_after_action act thread.frames) (gone_on_ends act thread.frames) made)
  action_has (action.Reaches what act) of =
      let operands = operands_of (slice_get s.threads t) in
      own_has (after_effect program s t operands what) (thread_after_action act) (affected_threads program s t operands what)
      (λ made lives. lives_on (stack_after_action act thread.frames) (gone_on_ends act thread.frames) made)
  action_has (action.Begins class) of =
      let f = stack_frame.Initialisation class false in
      own_has (with_class_constants s (slice_get program class)) (with_initialisation_frame class) (constants_threads s (slice_get program class))
      (λ made lives. lives_on (f ∷ thread.frames) (begun_ends f thread.frames) made)
  action_has (action.Finishes class) of =
      own_has s without_top (grown_not s.threads) (λ made lives. lives_on (drop 1 thread.frames) (finished_ends thread.frames of) made)
  action_has (action.Enters method body locked) of =
      own_has (with_lock program s t locked) (first_called start method body locked) (locked_threads program s t locked) (λ made lives. entered_ends (frame_of_call method body (locked_reference locked) (first_arguments start thread)) of)
  action_has (action.Ends method result unlock) of =
      own_result (with_changed (with_unlock s unlock) t after_end) result (own_has (with_unlock s unlock) after_end (unlocked_threads s unlock) (ended_has (after_end thread) refl))
  action_has (action.Calls method body takes locked) of =
      let callee = frame_of_call method body (locked_reference locked) (arguments_of takes (slice_get s.threads t)) in
      own_has (with_lock program s t locked) (thread_with_call callee takes) (locked_threads program s t locked)
      (λ made lives. lives_on (stack_frame.Call callee ∷ stack_without_operands takes thread.frames) (λ is. begun_ends (stack_frame.Call callee) (stack_without_operands takes thread.frames) (given_ends takes thread.frames is)) made)
  action_has (action.Returns method result unlock) of =
      own_has (with_unlock s unlock) (after_return result) (unlocked_threads s unlock)
      (λ made lives. lives_on (stack_after_return result (drop 1 thread.frames)) (λ is. returned_ends result (drop 1 thread.frames) (popped_ends thread.frames of is)) made)
  action_has (action.Initialises method body) of =
      let callee = frame_of_call method body None [] in
      own_has s (thread_with_initializer callee) (grown_not s.threads)
      (λ made lives. lives_on (stack_frame.Call callee ∷ initializer_called thread.frames) (λ is. begun_ends (stack_frame.Call callee) (initializer_called thread.frames) (initialising_ends thread.frames is)) made)
  action_has (action.Throws r) of =
      own_has s (after_throw r) (grown_not s.threads) (λ made lives. lives_on (stack_without_operands 1 thread.frames) (given_ends 1 thread.frames) made)
  action_has (action.Catches r target) of =
      own_has s (caught r target) (grown_not s.threads) (λ made lives. lives_on (top_handling r target thread.frames) (handling_ends r target thread.frames) made)
  action_has (action.Unwinds method last unlock) of =
      own_has (with_unlock s unlock) (unwound last) (unlocked_threads s unlock) (unwound_has thread last refl refl of)
  action_has (action.FailsToUnlock method e last) of =
      own_has (with_exception program s e) (λ v. unwound last (with_pending (exception_reference s e) v)) (exception_threads program s e)
      (unwound_has (with_pending (exception_reference s e) thread) last refl refl of)
  action_has (action.FailsInitialisation class e last) of =
      own_has (with_exception program s e) (λ v. unwound last (with_pending (exception_reference s e) v)) (exception_threads program s e)
      (unwound_has (with_pending (exception_reference s e) thread) last refl refl of)
  action_has (action.Waits w) of =
      own_has (with_waiter s t w.reference) (put_to_wait w) (grown_not s.threads) (λ made lives. lives_on (stack_without_operands 1 thread.frames) (given_ends 1 thread.frames) made)
  action_has (action.Retakes w) of =
      own_has (with_retaken s t w) after_wait (grown_not s.threads) (λ made lives. lives_on (stack_after_return None thread.frames) (returned_ends None thread.frames) made)
  action_has (action.Raises e) of =
      own_has (with_exception program s e) (with_pending (exception_reference s e)) (exception_threads program s e) (λ made lives. lives_on thread.frames (λ is. is) made)
  action_has (action.Fails e) of =
      own_has (with_exception program s e) (after_failure (exception_reference s e)) (exception_threads program s e) (ended_has (after_failure (exception_reference s e) thread) refl)

  decision_has : (d : TurnDecision) → IsOf thread.frames d → HasOwn (state_after program start s t d)
  decision_has (decision.Applies act) of = action_has act of
  decision_has (decision.Stays o) of = λ v at. subst HasLowestCall (same_Some thread v (sym there ∙ at)) has

-- ---- Turns

module _ (program : List Class) (limits : Limits) (start : Start) (s : State) (t : ℕ) where
  given_out_keeps : (thread : Thread) (has_ended : Bool) → thread.ended ≡ has_ended → slice_get s.threads t ≡ Some thread → HasLowestCall thread → (v : Thread) → slice_get (state_after program start s t (started_decision program limits start s t thread (status_by has_ended thread.pending thread.waits))).threads t ≡ Some v → HasLowestCall v
  given_out_keeps thread true is there has v at = subst HasLowestCall (same_Some thread v (sym there ∙ at)) has
  given_out_keeps thread false is there has v at =
      decision_has program limits start s t thread there is has (started_decision program limits start s t thread (status_by false thread.pending thread.waits))
      (given_out_has program limits start s t (λ joins accesses d. IsOf thread.frames d) thread (turns_are program limits start s t thread) false thread.pending thread.waits there refl) v at

  thread_keeps : (o : Option Thread) → slice_get s.threads t ≡ o → ((thread : Thread) → o ≡ Some thread → HasLowestCall thread) → (v : Thread) → slice_get (state_after program start s t (thread_decision program limits start s t o)).threads t ≡ Some v → HasLowestCall v
  thread_keeps None is has v at = absurd (none-some v (sym is ∙ at))
  thread_keeps (Some thread) is has v at = given_out_keeps thread thread.ended refl is (has thread refl) v at

  own_keeps : HaveLowestCalls s.threads → (v : Thread) → slice_get (turn program limits start s t).state.threads t ≡ Some v → HasLowestCall v
  unfolding turn decide
  own_keeps have v at = thread_keeps (slice_get s.threads t) refl (λ thread is. have t thread is) v at

  -- A new thread has made no call.
  new_has : (v : Thread) (object : Option ℕ) → v ≡ new_thread object → HasLowestCall v
  new_has v object is made lives =
      let none : v.first_call_made ≡ false = ap (λ (w : Thread). w.first_call_made) is in
      absurd (cc)

  other_keeps : HaveLowestCalls s.threads → (u : ℕ) (v : Thread) (o : Option Thread) → slice_get s.threads u ≡ o → (u ≡ t → ⊥) → slice_get (turn program limits start s t).state.threads u ≡ Some v → HasLowestCall v
  other_keeps have u v None is other at =
      let new = turn_starts_new program limits start s t u v is at in
      new_has v (Some new.0) new.1
  other_keeps have u v (Some thread) is other at =
      subst HasLowestCall (same_Some thread v (sym (turn_keeps_others program limits start s t u thread other is) ∙ at)) (have u thread is)

  pub turn_keeps_lowest_calls : HaveLowestCalls s.threads → HaveLowestCalls (turn program limits start s t).state.threads
  turn_keeps_lowest_calls have u v at =
      ⊎_elim
      (λ same. own_keeps have v (subst (λ (w : ℕ). slice_get (turn program limits start s t).state.threads w ≡ Some v) same.1 at))
      (λ other. other_keeps have u v (slice_get s.threads u) refl other.1 at)
      (eqb_tells u t)

opening_by : (u : ℕ) (v : Thread) → slice_get (new_thread None ∷ []) u ≡ Some v → HasLowestCall v
opening_by zero v at =
    let none : v.first_call_made ≡ false = sym (ap (λ (w : Thread). w.first_call_made) (same_Some (new_thread None) v at)) in
    λ made lives. absurd (cc)
opening_by (suc u) v at = absurd (none-some v at)

pub opening_has_lowest_calls : (program : List Class) → HaveLowestCalls (opening program).threads
unfolding opening
opening_has_lowest_calls program u v at = opening_by u v at
