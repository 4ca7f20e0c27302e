-- Local turns of the machine.
use Rattle.std.proofs.Common.{Bool, List, None, Option, Some, [], ap, false, length, refl, slice_get, slice_set, subst, sym, true, ℕ, ◌<◌, ◌∙◌, ◌∷◌, ◌≡◌}
use Rattle.std.proofs.lemmas.Bool.{false≢true}
use Rattle.std.proofs.lemmas.List.{length-set}
use Rattle.std.proofs.lemmas.Option.{none-some, same_Some, slice_get_within}
use Rattle.std.specs.Option.{is_some}
use Rattle.std.specs.List.{filter}
use Rattle.mark_laws.specs.Swaps.{is_of}
use Rattle.std.proofs.Common.{⊎_elim}
use Rattle.departures.specs.Reductions.{AreLocal}
use Rattle.jvms_machine.proofs.ListLaws.{get_set_other}
use Rattle.jvms_machine.specs.Actions.{applied_to, changed_to, items_of, thread_after_action}
use Rattle.jvms_machine.specs.Decisions.{TurnAction, TurnDecision, outcome_of}
use Rattle.jvms_machine.specs.Start.{Start}
use Rattle.jvms_machine.specs.State.{Frame, MethodFrame, State, Thread, ThreadStatus, executing, over, status_of_thread, unwinding, waiting}
use Rattle.jvms_machine.specs.Status.{is_enabled}
use Rattle.jvms_machine.specs.Steps.{frame_decision, instruction_at, step_at, top_step}
use Rattle.jvms_machine.specs.Turn.{decide, frame_turn_decision, frames_decision, instruction_decision, items_after, started_decision, state_after, thread_decision, turn}
use Rattle.jvms_machine.specs.declared.action.Action.TheVariants as action
use Rattle.jvms_machine.specs.declared.action.Decision.TheVariants as decision
use Rattle.jvms_machine.specs.declared.action.FrameAction.{FrameAction}
use Rattle.jvms_machine.specs.declared.action.FrameDecision.{FrameDecision}
use Rattle.jvms_machine.specs.declared.action.FrameDecision.TheVariants as frame_decided
use Rattle.jvms_machine.specs.declared.machine.Limits.{Limits}
use Rattle.jvms_machine.specs.declared.state.StackFrame.TheVariants as stack_frame
use Rattle.jvms_program.specs.declared.program.Class.{Class}
use Rattle.jvms_program.specs.declared.program.Instruction.{Instruction}
use Rattle.local_laws.proofs.Beside.{decide_beside}
use Rattle.local_laws.proofs.Swap.{applied_swaps}
use Rattle.local_laws.specs.Local.{frame_action_by, frame_action_in, frame_action}
use Rattle.local_turns.proofs.Natives.{natives_beside}
use Rattle.turn_item_laws.proofs.ThreadLaws.{turn_keeps_others}
use Rattle.departures.specs.Reductions.{seen_by}
use Rattle.jvms_machine.proofs.TurnSoundness.{turn_keeps}
use Rattle.jvms_machine.specs.Actions.{after_return, arguments_of, thread_with_call}
use Rattle.jvms_machine.specs.Calls.{frame_of_call}
use Rattle.jvms_machine.specs.Limits.{are_limits}
use Rattle.jvms_machine.specs.Start.{IsStart}
use Rattle.jvms_machine.specs.State.{Sound}
use Rattle.jvms_machine.specs.declared.action.Lock.TheVariants as lock
use Rattle.jvms_program.specs.Program.{IsProgram}
use Rattle.local_turns.proofs.Heaps.{turn_keeps_classes}
use Rattle.local_turns.proofs.Items.{AreMarks, decided_of, entered_marks, exited_marks, marks_slide}
use Rattle.local_turns.proofs.Same.{decided_same}
use Rattle.local_turns.proofs.Settled.{turn_keeps_settled}
use Rattle.local_laws.specs.Local.{is_local, is_local_decision, thread_calls_or_returns}
use Rattle.local_turns.specs.Turns.{items_in, turns_of, view_of}
use Rattle.std.proofs.Common.{IsTrue, inl, inr, ◌⊎◌, ◌&&◌, ◌||◌, ◌++◌}

-- The action touches its thread alone, and gives at most marks.
abbrev IsOwn : TurnAction → Type 0
IsOwn (action.Goes act) = Unit {0}
IsOwn (action.Calls method body takes lock.Nothing) = Unit {0}
IsOwn (action.Returns method result None) = Unit {0}
IsOwn _ = ⊥

-- Returns the thread after such an action.
abbrev thread_by : TurnAction → Thread → Thread
thread_by (action.Goes act) thread = thread_after_action act thread
thread_by (action.Calls method body takes lock.Nothing) thread = thread_with_call (frame_of_call method body None (arguments_of takes (Some thread))) takes thread
thread_by (action.Returns method result None) thread = after_return result thread
thread_by _ thread = thread

same_object : (act : TurnAction) (thread : Thread) → IsOwn act → (thread_by act thread).object ≡ thread.object
same_object (action.Goes act) thread own = refl
same_object (action.Calls method body takes lock.Nothing) thread own = refl
same_object (action.Returns method result None) thread own = refl
same_object _ thread own = absurd own

same_end : (act : TurnAction) (thread : Thread) → IsOwn act → (thread_by act thread).ended ≡ thread.ended
same_end (action.Goes act) thread own = refl
same_end (action.Calls method body takes lock.Nothing) thread own = refl
same_end (action.Returns method result None) thread own = refl
same_end _ thread own = absurd own

own_marks : (program : List Class) (t : ℕ) (act : TurnAction) → IsOwn act → AreMarks (items_of program t act)
unfolding items_of
own_marks program t (action.Goes act) own = refl
own_marks program t (action.Calls method body takes lock.Nothing) own = entered_marks program t method
own_marks program t (action.Returns method result None) own = exited_marks program t method
own_marks program t _ own = absurd own

own_enabled : (act : TurnAction) → IsOwn act → is_enabled (outcome_of (let d : TurnDecision = decision.Applies act in d)) ≡ true
own_enabled (action.Goes act) own = refl
own_enabled (action.Calls method body takes lock.Nothing) own = refl
own_enabled (action.Returns method result None) own = refl
own_enabled _ own = absurd own

-- Returns the state with another thread at an index.
abbrev put : State → ℕ → Thread → State
put s t thread = record s { threads = slice_set s.threads t thread }

own_state : (program : List Class) (start : Start) (s : State) (t : ℕ) (act : TurnAction) (thread : Thread) → IsOwn act → slice_get s.threads t ≡ Some thread → applied_to program start s t act ≡ put s t (thread_by act thread)
unfolding applied_to
own_state program start s t (action.Goes act) thread own found = ap (λ o. record s { threads = changed_to s.threads t (thread_after_action act) o }) found
own_state program start s t (action.Calls method body takes lock.Nothing) thread own found =
    ap (λ o. record s { threads = changed_to s.threads t (thread_with_call (frame_of_call method body None (arguments_of takes o)) takes) o }) found
own_state program start s t (action.Returns method result None) thread own found = ap (λ o. record s { threads = changed_to s.threads t (after_return result) o }) found
own_state program start s t _ thread own found = absurd own

-- A local decision has such an action.
act_in : (d : TurnDecision) → is_local_decision d ≡ true → (act : TurnAction) × (d ≡ decision.Applies act) × IsOwn act
act_in (decision.Stays o) local = absurd (false≢true local)
act_in (decision.Applies (action.Calls method body takes lock.Nothing)) local = (action.Calls method body takes lock.Nothing, refl, tt)
act_in (decision.Applies (action.Returns method result None)) local = (action.Returns method result None, refl, tt)
act_in (decision.Applies _) local = absurd (false≢true local)

either : (a b c : Bool) → (a || (b && c)) ≡ true → (a ≡ true) ⊎ ((b ≡ true) × (c ≡ true))
either true b c is = inl refl
either false true c is = inr (refl, is)
either false false c is = absurd (false≢true is)

first_way : (a b : Bool) → a ≡ true → (a || b) ≡ true
first_way true b is = refl
first_way false b is = absurd (false≢true is)

second_way : (a b c : Bool) → b ≡ true → c ≡ true → (a || (b && c)) ≡ true
second_way true b c first second = refl
second_way false true c first second = second
second_way false false c first second = absurd (false≢true first)

act_of : (o : Option FrameAction) → is_some o ≡ true → (act : FrameAction) × (o ≡ Some act)
act_of None is = absurd (false≢true is)
act_of (Some act) is = (act, refl)

thread_at : (o : Option Thread) → is_some (frame_action o) ≡ true → (thread : Thread) × (o ≡ Some thread) × (is_some (frame_action_by (status_of_thread thread) thread) ≡ true)
thread_at None is = absurd (false≢true is)
thread_at (Some thread) is = (thread, refl, is)

calling_at : (o : Option Thread) → thread_calls_or_returns o ≡ true → (thread : Thread) × (o ≡ Some thread)
calling_at None is = absurd (false≢true is)
calling_at (Some thread) is = (thread, refl)

module _ (program : List Class) (limits : Limits) (start : Start) where
  decided : (s : State) (t : ℕ) (thread : Thread) (frame : MethodFrame) (below : List Frame) (i : Instruction) (d : FrameDecision) (act : FrameAction) → frame_action_in d ≡ Some act → instruction_decision program limits s t thread frame below i d ≡ decision.Applies (action.Goes act)
  decided s t thread frame below i (frame_decided.Does a) act is = ap (λ x. decision.Applies (action.Goes x)) (same_Some a act is)
  decided s t thread frame below i (frame_decided.Throws class) act is = absurd (none-some act is)
  decided s t thread frame below i (frame_decided.Stops why) act is = absurd (none-some act is)
  decided s t thread frame below i frame_decided.Beyond act is = absurd (none-some act is)

  decided_at : (s : State) (t : ℕ) (thread : Thread) (frame : MethodFrame) (below : List Frame) (o : Option Instruction) (act : FrameAction) → frame_action_in (step_at frame o) ≡ Some act → frame_turn_decision program limits s t thread frame below o ≡ decision.Applies (action.Goes act)
  decided_at s t thread frame below None act is = absurd (none-some act is)
  decided_at s t thread frame below (Some i) act is = decided s t thread frame below i (frame_decision frame.body i frame.activation) act is

  decided_top : (s : State) (t : ℕ) (thread : Thread) (frames : List Frame) (act : FrameAction) → frame_action_in (top_step frames) ≡ Some act → frames_decision program limits start s t thread frames ≡ decision.Applies (action.Goes act)
  decided_top s t thread [] act is = absurd (none-some act is)
  decided_top s t thread (stack_frame.Initialisation class called ∷ below) act is = absurd (none-some act is)
  decided_top s t thread (stack_frame.Call frame ∷ below) act is = decided_at s t thread frame below (instruction_at frame) act is

  decided_by : (s : State) (t : ℕ) (thread : Thread) (status : ThreadStatus) (act : FrameAction) → frame_action_by status thread ≡ Some act → started_decision program limits start s t thread status ≡ decision.Applies (action.Goes act)
  decided_by s t thread over act is = absurd (none-some act is)
  decided_by s t thread (unwinding e) act is = absurd (none-some act is)
  decided_by s t thread (waiting w) act is = absurd (none-some act is)
  decided_by s t thread executing act is = decided_top s t thread thread.frames act is

  -- A thread at an index, and the action of its next turn, by its frame alone or by a local call or return.
  record LocalTurn (s : State) (t : ℕ) : Type 0 where
    thread : Thread
    act : TurnAction
    found : slice_get s.threads t ≡ Some thread
    decides : decide program limits start s t ≡ decision.Applies act
    own : IsOwn act
    why : (is_some (frame_action (Some thread)) ≡ true) ⊎ ((thread_calls_or_returns (Some thread) ≡ true) × (is_local_decision (decide program limits start s t) ≡ true))

  frame_decides : (s : State) (t : ℕ) (thread : Thread) (act : FrameAction) → slice_get s.threads t ≡ Some thread → frame_action_by (status_of_thread thread) thread ≡ Some act → decide program limits start s t ≡ decision.Applies (action.Goes act)
  unfolding decide
  frame_decides s t thread act found acts = ap (thread_decision program limits start s t) found ∙ decided_by s t thread (status_of_thread thread) act acts

  frame_turn : (s : State) (t : ℕ) → is_some (frame_action (slice_get s.threads t)) ≡ true → LocalTurn s t
  frame_turn s t now =
      let at = thread_at (slice_get s.threads t) now in
      let act = act_of (frame_action_by (status_of_thread at.0) at.0) at.2 in
      record { thread = at.0; act = action.Goes act.0; found = at.1; decides = frame_decides s t at.0 act.0 at.1 act.1; own = tt; why = inl (ap is_some act.1) }

  calling_turn : (s : State) (t : ℕ) → thread_calls_or_returns (slice_get s.threads t) ≡ true → is_local_decision (decide program limits start s t) ≡ true → LocalTurn s t
  calling_turn s t now local =
      let at = calling_at (slice_get s.threads t) now in
      let act = act_in (decide program limits start s t) local in
      record { thread = at.0; act = act.0; found = at.1; decides = act.1; own = act.2; why = inr (subst (λ o. thread_calls_or_returns o ≡ true) at.1 now, local) }

  local_turn : (s : State) (t : ℕ) → is_local program limits start s t ≡ true → LocalTurn s t
  local_turn s t now =
      ⊎_elim
      (λ on_top. frame_turn s t on_top)
      (λ calls. calling_turn s t calls.0 calls.1)
      (either (is_some (frame_action (slice_get s.threads t))) (thread_calls_or_returns (slice_get s.threads t)) (is_local_decision (decide program limits start s t)) now)

  local_at : (s : State) (t : ℕ) → LocalTurn s t → is_local program limits start s t ≡ true
  local_at s t l =
      ⊎_elim
      (λ on_top. first_way (is_some (frame_action (slice_get s.threads t))) (thread_calls_or_returns (slice_get s.threads t) && is_local_decision (decide program limits start s t)) (ap (λ o. is_some (frame_action o)) l.found ∙ on_top))
      (λ calls. second_way (is_some (frame_action (slice_get s.threads t))) (thread_calls_or_returns (slice_get s.threads t)) (is_local_decision (decide program limits start s t)) (ap thread_calls_or_returns l.found ∙ calls.0) calls.1)
      l.why

  state_by : (s : State) (t : ℕ) → (turn program limits start s t).state ≡ state_after program start s t (decide program limits start s t)
  unfolding turn
  state_by s t = refl

  outcome_by : (s : State) (t : ℕ) → (turn program limits start s t).outcome ≡ outcome_of (decide program limits start s t)
  unfolding turn
  outcome_by s t = refl

  items_by : (s : State) (t : ℕ) → (turn program limits start s t).items ≡ items_after program t (decide program limits start s t)
  unfolding turn
  items_by s t = refl

  local_state : (s : State) (t : ℕ) (l : LocalTurn s t) → (turn program limits start s t).state ≡ put s t (thread_by l.act l.thread)
  local_state s t l = state_by s t ∙ (ap (state_after program start s t) l.decides ∙ own_state program start s t l.act l.thread l.own l.found)

  local_items : (s : State) (t : ℕ) (l : LocalTurn s t) → (turn program limits start s t).items ≡ items_of program t l.act
  local_items s t l = items_by s t ∙ ap (items_after program t) l.decides

  -- The decision of another thread is the same after a local turn.
  same_decision : (s : State) (t u : ℕ) → (u ≡ t → ⊥) → (l : LocalTurn s t) → decide program limits start (turn program limits start s t).state u ≡ decide program limits start s u
  same_decision s t u other l =
      let after = thread_by l.act l.thread in
      ap (λ x. decide program limits start x u) (local_state s t l)
      ∙ decide_beside program limits start s (slice_set s.threads t after)
      (natives_beside limits s t l.thread after l.found (same_object l.act l.thread l.own) (same_end l.act l.thread l.own)) u (get_set_other s.threads t u after other)

  moved_after : (s : State) (t u : ℕ) (thread : Thread) → (u ≡ t → ⊥) → t < length s.threads → (d : TurnDecision) → state_after program start (put s t thread) u d ≡ put (state_after program start s u d) t thread
  moved_after s t u thread other there (decision.Applies act) = applied_swaps program start t u thread other s act there
  moved_after s t u thread other there (decision.Stays o) = refl

  module _ (is : IsProgram program) (are : IsTrue (are_limits limits)) (starts : IsStart start) where
    keeps_sound : (s : State) (u : ℕ) → Sound program limits s → Sound program limits (turn program limits start s u).state
    keeps_sound s u sound = turn_keeps program limits start s u is are starts sound

    found_still : (s : State) (t u : ℕ) → (u ≡ t → ⊥) → (l : LocalTurn s t) → slice_get (turn program limits start s u).state.threads t ≡ Some l.thread
    found_still s t u other l = turn_keeps_others program limits start s u t l.thread (λ same. other (sym same)) l.found

    -- The turn stays local after a turn of another thread, with the same action.
    decides_still : (s : State) (t u : ℕ) → Sound program limits s → (u ≡ t → ⊥) → (l : LocalTurn s t) → decide program limits start (turn program limits start s u).state t ≡ decide program limits start s t
    decides_still s t u sound other l =
        ⊎_elim
        (λ on_top.
        let act = act_of (frame_action_by (status_of_thread l.thread) l.thread) on_top in
        frame_decides (turn program limits start s u).state t l.thread act.0 (found_still s t u other l) act.1 ∙ sym (frame_decides s t l.thread act.0 l.found act.1))
        (λ calls.
        decided_same program limits s (turn program limits start s u).state t l.thread
        (turn_keeps_classes program limits start s u)
        (turn_keeps_settled program limits start s t u l.thread l.found (found_still s t u other l) sound (keeps_sound s u sound))
        start l.found (found_still s t u other l) (ap thread_calls_or_returns l.found ∙ calls.0) calls.1)
        l.why

    still_local : (s : State) (t u : ℕ) → Sound program limits s → (u ≡ t → ⊥) → LocalTurn s t → LocalTurn (turn program limits start s u).state t
    still_local s t u sound other l =
        record {
          thread = l.thread;
          act = l.act;
          found = found_still s t u other l;
          decides = decides_still s t u sound other l ∙ l.decides;
          own = l.own;
          why = ⊎_elim (λ on_top. inl on_top) (λ calls. inr (calls.0, ap is_local_decision (decides_still s t u sound other l) ∙ calls.1)) l.why;
        }

    turns_commute : (s : State) (t u : ℕ) → Sound program limits s → (u ≡ t → ⊥) → LocalTurn s t → (turn program limits start (turn program limits start s u).state t).state ≡ (turn program limits start (turn program limits start s t).state u).state
    unfolding still_local
    turns_commute s t u sound other l =
        let after = thread_by l.act l.thread in
        let first = local_state (turn program limits start s u).state t (still_local s t u sound other l) in
        let second = state_by (turn program limits start s t).state u
        ∙ (ap (state_after program start (turn program limits start s t).state u) (same_decision s t u other l)
        ∙ (ap (λ x. state_after program start x u (decide program limits start s u)) (local_state s t l)
        ∙ (moved_after s t u after other (slice_get_within s.threads t l.thread l.found) (decide program limits start s u)
        ∙ ap (λ x. put x t after) (sym (state_by s u))))) in
        first ∙ sym second

    -- The items of both turns give the same view in both orders.
    items_slide : (s : State) (t u : ℕ) → Sound program limits s → (u ≡ t → ⊥) → LocalTurn s t
        → view_of ((turn program limits start s t).items ++ (turn program limits start (turn program limits start s t).state u).items)
        ≡ view_of ((turn program limits start s u).items ++ (turn program limits start (turn program limits start s u).state t).items)
    unfolding still_local
    items_slide s t u sound other l =
        let mine = items_of program t l.act in
        let others = items_after program u (decide program limits start s u) in
        let own = subst (λ xs. (v : ℕ) → (t ≡ v → ⊥) → filter (is_of v) xs ≡ []) (ap (items_after program t) l.decides) (decided_of program t (decide program limits start s t)) in
        ap (λ xs. view_of (xs ++ (turn program limits start (turn program limits start s t).state u).items)) (local_items s t l)
        ∙ (ap (λ ys. view_of (mine ++ ys)) (items_by (turn program limits start s t).state u ∙ ap (items_after program u) (same_decision s t u other l))
        ∙ (marks_slide t u mine others other (own_marks program t l.act l.own) own (decided_of program u (decide program limits start s u))
        ∙ (ap (λ ys. view_of (ys ++ mine)) (sym (items_by s u))
        ∙ ap (λ xs. view_of ((turn program limits start s u).items ++ xs)) (sym (local_items (turn program limits start s u).state t (still_local s t u sound other l))))))

    pub are_local : AreLocal (turns_of program limits start) (is_local program limits start) (items_in program limits start) (seen_by view_of) (Sound program limits)
    are_local =
        record {
          kept = λ s u sound can. keeps_sound s u sound;
          can_take = λ s t now.
              let l = local_turn s t now in
              record {
                started = slice_get_within s.threads t l.thread l.found;
                on = ap is_enabled (outcome_by s t) ∙ (ap (λ d. is_enabled (outcome_of d)) l.decides ∙ own_enabled l.act l.own);
              };
          stays = λ s t u sound other now can. local_at (turn program limits start s u).state t (still_local s t u sound other (local_turn s t now));
          commutes = λ s t u sound other now can. turns_commute s t u sound other (local_turn s t now);
          threads = λ s t now. let l = local_turn s t now in ap (λ (x : State). length x.threads) (local_state s t l) ∙ length-set s.threads t (thread_by l.act l.thread);
          leaves = λ s t u other now.
              let l = local_turn s t now in
              ap is_enabled (outcome_by (turn program limits start s t).state u) ∙ (ap (λ d. is_enabled (outcome_of d)) (same_decision s t u other l) ∙ ap is_enabled (sym (outcome_by s u)));
          slides = λ s t u sound other now can. items_slide s t u sound other (local_turn s t now);
        }
