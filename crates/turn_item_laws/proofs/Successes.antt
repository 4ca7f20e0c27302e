-- The items of a call's turn are those of its instruction if the call continues, and else there are none.
use Rattle.std.proofs.Common.{Bool, List, None, Option, Some, [], ap, arith, cond, eq-eqb, false, ne_eqb, refl, slice_get, sym, true, ℕ, ◌+◌, ◌∙◌, ◌∷◌, ◌≡◌}
use Rattle.std.proofs.lemmas.Bool.{cond-false, cond-true, cond_both}
use Rattle.std.specs.List.{filter}
use Rattle.jvms_program.specs.declared.number.MethodNumber.{MethodNumber}
use Rattle.jvms_program.specs.declared.program.Body.{Body}
use Rattle.jvms_program.specs.declared.program.Class.{Class}
use Rattle.jvms_program.specs.declared.thrown.Thrown.{Thrown}
use Rattle.jvms_machine.specs.Actions.{after_effect, applied_to, arguments_of, with_initialisation_frame, frame_after_action, thread_with_call, changed_to, effect_items, without_arguments, thread_after_action, items_of, operands_of, put_to_wait, with_pending, stack_without_operands, stack_after_action, with_changed, with_class_constants, with_exception, with_lock, with_waiter}
use Rattle.jvms_machine.specs.Activations.{activation_after}
use Rattle.jvms_machine.specs.Calls.{frame_of_call}
use Rattle.jvms_machine.specs.Decisions.{TurnDecision}
use Rattle.jvms_machine.specs.Exceptions.{exception_of, exception_reference, raise_decision, throws}
use Rattle.jvms_machine.specs.Fields.{reaches}
use Rattle.jvms_machine.specs.Monitors.{locked_reference}
use Rattle.jvms_machine.specs.Start.{Start}
use Rattle.jvms_machine.specs.State.{Frame, MethodFrame, State, Thread}
use Rattle.jvms_machine.specs.Turn.{items_after, state_after}
use Rattle.jvms_machine.specs.declared.action.Action.TheVariants as action
use Rattle.jvms_machine.specs.declared.action.Decision.TheVariants as decision
use Rattle.jvms_machine.specs.declared.action.Effect.{Effect}
use Rattle.jvms_machine.specs.declared.action.Exception.{Exception}
use Rattle.jvms_machine.specs.declared.action.FrameAction.{FrameAction}
use Rattle.jvms_machine.specs.declared.action.Lock.{Lock}
use Rattle.jvms_machine.specs.declared.machine.Limits.{Limits}
use Rattle.jvms_machine.specs.declared.machine.Outcome.{Outcome}
use Rattle.jvms_machine.specs.declared.state.StackFrame.TheVariants as stack_frame
use Rattle.jvms_machine.specs.declared.state.Wait.{Wait}
use Rattle.jvms_machine.specs.declared.trace.Item.{Item}
use Rattle.jvms_machine.proofs.ListLaws.{get_set_same}
use Rattle.turn_item_laws.proofs.CallLeaves.{AreKnown, IsNext, IsOfCalls, IsOnTop}
use Rattle.turn_item_laws.proofs.SilentItems.{AreSilent, none_is_silent}
use Rattle.turn_item_laws.proofs.SilentTurns.{begins_is_silent, calls_is_silent, raise_is_silent, waits_is_silent}
use Rattle.turn_item_laws.proofs.ThreadLaws.{AreThreadsGrown, affected_threads, constants_threads, exception_threads, grown_not, locked_threads}
use Rattle.turn_item_laws.specs.Accesses.{is_access}
use Rattle.turn_item_laws.specs.Joins.{is_join}
use Rattle.turn_item_laws.specs.Progress.{call_on, has_continued, is_further, top_call}

-- The joins and accesses of a decision are these if the call continues, and else there are none.
pub record HasItemsOf (program : List Class) (limits : Limits) (start : Start) (s : State) (t : ℕ) (joins accesses : List Item) (d : TurnDecision) : Type 0 where
  pub joins_are : AreKnown program limits s → filter is_join (items_after program t d) ≡ cond (has_continued t s (state_after program start s t d)) joins []
  pub accesses_are : filter is_access (items_after program t d) ≡ cond (has_continued t s (state_after program start s t d)) accesses []

-- A silent turn has no joins and no accesses.
pub silent_is_told : (program : List Class) (limits : Limits) (start : Start) (s : State) (t : ℕ) (d : TurnDecision) → AreSilent (items_after program t d) → HasItemsOf program limits start s t [] [] d
silent_is_told program limits start s t d silent =
    let gone = has_continued t s (state_after program start s t d) in
    record {
      joins_are = λ _. silent.joins ∙ sym (cond_both gone [] [] (λ (items : List Item). items ≡ []) (λ _. refl) (λ _. refl));
      accesses_are = silent.accesses ∙ sym (cond_both gone [] [] (λ (items : List Item). items ≡ []) (λ _. refl) (λ _. refl));
    }

module _ (program : List Class) (limits : Limits) (start : Start) (s : State) (t : ℕ) (thread : Thread) (frame : MethodFrame) (below : List Frame) (top : IsOnTop s t thread frame below) (joins accesses : List Item) where
  abbrev Told : TurnDecision → Type 0
  Told d = HasItemsOf program limits start s t joins accesses d

  abbrev gone : TurnDecision → Bool
  gone d = has_continued t s (state_after program start s t d)

  -- ---- Whether the call has continued

  top_is : top_call (slice_get s.threads t) ≡ Some frame
  top_is = ap top_call top.given_out ∙ ap call_on top.frames_are

  -- The call on top before the turn, compared with the top after it.
  further_to : (after : State) (o : Option MethodFrame) → top_call (slice_get after.threads t) ≡ o → has_continued t s after ≡ is_further (Some frame) o
  further_to after o is = ap (λ f. is_further f (top_call (slice_get after.threads t))) top_is ∙ ap (is_further (Some frame)) is

  changed_top : (made : State) (change : Thread → Thread) → AreThreadsGrown s.threads made.threads → top_call (slice_get (with_changed made t change).threads t) ≡ call_on (change thread).frames
  changed_top made change grown =
      let there = grown.same t thread top.given_out in
      ap (λ o. top_call (slice_get (changed_to made.threads t change o) t)) there ∙ ap top_call (get_set_same made.threads t thread (change thread) there)

  -- A call that stays at its pc isn't further.
  not_further : is_further (Some frame) (Some frame) ≡ false
  not_further = ne_eqb frame.activation.place (frame.activation.place + 1) (λ same. absurd (omega arith))

  unmade_stays : (o : Outcome) → gone (decision.Stays o) ≡ false
  unmade_stays o = further_to s (Some frame) top_is ∙ not_further

  raises_stays : (e : Exception) → gone (decision.Applies (action.Raises e)) ≡ false
  unfolding applied_to
  raises_stays e =
      let made = with_exception program s e in
      let change = with_pending (exception_reference s e) in
      further_to (with_changed made t change) (Some frame) (changed_top made change (exception_threads program s e) ∙ ap call_on top.frames_are) ∙ not_further

  begins_stays : (class : ℕ) → gone (decision.Applies (action.Begins class)) ≡ false
  unfolding applied_to
  begins_stays class =
      let made = with_class_constants s (slice_get program class) in
      further_to (with_changed made t (with_initialisation_frame class)) None (changed_top made (with_initialisation_frame class) (constants_threads s (slice_get program class)))

  calls_stays : (n : MethodNumber) (body : Body) (takes : ℕ) (locked : Lock) → gone (decision.Applies (action.Calls n body takes locked)) ≡ false
  unfolding applied_to
  calls_stays n body takes locked =
      let made = with_lock program s t locked in
      let callee = frame_of_call n body (locked_reference locked) (arguments_of takes (slice_get s.threads t)) in
      further_to (with_changed made t (thread_with_call callee takes)) (Some callee) (changed_top made (thread_with_call callee takes) (locked_threads program s t locked))
      ∙ ne_eqb 0 (frame.activation.place + 1) (λ same. absurd (omega arith))

  -- A call of `wait` returns only later.
  waits_stays : (w : Wait) → gone (decision.Applies (action.Waits w)) ≡ false
  unfolding applied_to
  waits_stays w =
      let made = with_waiter s t w.reference in
      further_to (with_changed made t (put_to_wait w)) (Some (without_arguments 1 frame))
      (changed_top made (put_to_wait w) (grown_not s.threads) ∙ ap (λ fs. call_on (stack_without_operands 1 fs)) top.frames_are)
      ∙ not_further

  reaches_goes_on : (what : Effect (List ℕ)) (act : FrameAction) → IsNext frame act → gone (reaches what act) ≡ true
  unfolding applied_to
  reaches_goes_on what act next =
      let operands = operands_of (slice_get s.threads t) in
      let made = after_effect program s t operands what in
      further_to (with_changed made t (thread_after_action act)) (Some (frame_after_action act frame))
      (changed_top made (thread_after_action act) (affected_threads program s t operands what) ∙ ap (λ fs. call_on (stack_after_action act fs)) top.frames_are)
      ∙ eq-eqb (activation_after act frame.activation).place (frame.activation.place + 1) next

  -- ---- The items of decisions

  stays_is_told : (d : TurnDecision) → AreSilent (items_after program t d) → gone d ≡ false → Told d
  stays_is_told d silent stays =
      record {
        joins_are = λ _. silent.joins ∙ sym (cond-false (gone d) joins [] stays);
        accesses_are = silent.accesses ∙ sym (cond-false (gone d) accesses [] stays);
      }

  pub unmade_is_told : (o : Outcome) → Told (decision.Stays o)
  unmade_is_told o = stays_is_told (decision.Stays o) none_is_silent (unmade_stays o)

  raise_by : (frames : List Frame) (e : Exception) → frames ≡ stack_frame.Call frame ∷ below → Told (raise_decision frames e)
  raise_by [] e is = absurd (cc)
  raise_by (f ∷ fs) e is = stays_is_told (decision.Applies (action.Raises e)) (raise_is_silent program limits s t (f ∷ fs) e) (raises_stays e)

  throws_is_told : (class : Thrown) → Told (throws limits s thread class)
  unfolding throws
  throws_is_told class = raise_by thread.frames (exception_of limits s class) top.frames_are

  begins_is_told : (class : ℕ) → Told (decision.Applies (action.Begins class))
  begins_is_told class = stays_is_told (decision.Applies (action.Begins class)) (begins_is_silent program limits s t class) (begins_stays class)

  calls_is_told : (n : MethodNumber) (body : Body) (takes : ℕ) (locked : Lock) → Told (decision.Applies (action.Calls n body takes locked))
  calls_is_told n body takes locked =
      stays_is_told (decision.Applies (action.Calls n body takes locked)) (calls_is_silent program limits s t n body takes locked) (calls_stays n body takes locked)

  waits_is_told : (w : Wait) → Told (decision.Applies (action.Waits w))
  waits_is_told w = stays_is_told (decision.Applies (action.Waits w)) (waits_is_silent program limits s t w) (waits_stays w)

  -- The call continues, with the event of its instruction.
  reaches_is_told : (what : Effect (List ℕ)) (act : FrameAction) → IsNext frame act → (AreKnown program limits s → filter is_join (effect_items program t what) ≡ joins) → filter is_access (effect_items program t what) ≡ accesses → Told (reaches what act)
  unfolding items_of
  reaches_is_told what act next joined accessed =
      record {
        joins_are = λ known. joined known ∙ sym (cond-true (gone (reaches what act)) joins [] (reaches_goes_on what act next));
        accesses_are = accessed ∙ sym (cond-true (gone (reaches what act)) accesses [] (reaches_goes_on what act next));
      }

  pub told_calls : IsOfCalls program limits s t thread frame joins accesses Told
  told_calls =
      record {
        of_tests = record { unmade = unmade_is_told; thrown_by = throws_is_told; begun_by = λ class begins. begins_is_told class };
        calls = calls_is_told;
        waits = waits_is_told;
        reached = reaches_is_told;
      }
