-- A quiet turn keeps which other threads are enabled. So does one that keeps what threads wait for.
use Rattle.enabled_laws.proofs.BesideThread.{constants_beside, starts_none}
use Rattle.enabled_laws.proofs.EnabledTurns.{outcomes_fit, outcomes_same}
use Rattle.enabled_laws.proofs.Heaps.{AreSized}
use Rattle.enabled_laws.proofs.Holds.{KeepsHolds}
use Rattle.enabled_laws.proofs.Kept.{AreSameThreads, WaitStays, ended_kept, locks_kept, may_enter, retakes_by, started_kept}
use Rattle.enabled_laws.proofs.KnownEffects.{IsKnownAction, IsKnownDecision}
use Rattle.enabled_laws.proofs.KnownTurns.{decided_known}
use Rattle.enabled_laws.proofs.Moves.{Moves, action_moves, starts_no_thread}
use Rattle.enabled_laws.proofs.QuietActions.{action_keeps, quiet_begins_none, quiet_goes_on, quiet_initialises_none, quiet_starts}
use Rattle.enabled_laws.proofs.Related.{AsBefore, Asked, Stays, may_join}
use Rattle.enabled_laws.proofs.Statics.{action_statics, begins_none}
use Rattle.enabled_laws.proofs.Waiters.{action_waits}
use Rattle.enabled_laws.specs.Kept.{Keeps, ends_thread}
use Rattle.enabled_laws.specs.Quiet.{is_quiet_decision}
use Rattle.jvms_machine.proofs.ListLaws.{count_by_cons, get_set_same}
use Rattle.jvms_machine.proofs.TurnSoundness.{decided_is_ready, turn_is_told, turn_keeps}
use Rattle.jvms_machine.specs.Actions.{after_effect, applied_to, with_initialisation_frame, changed_to, thread_after_action, items_of, operands_of, with_changed, with_class_constants}
use Rattle.jvms_machine.specs.Decisions.{TurnAction, TurnDecision, outcome_of, outcome_of_action}
use Rattle.jvms_machine.specs.Events.{is_release, releases_between}
use Rattle.jvms_machine.specs.Limits.{are_limits}
use Rattle.jvms_machine.specs.Start.{IsStart, Start}
use Rattle.jvms_machine.specs.State.{Sound, State, Thread, frames_in_progress, initialisation_frames, is_initialisation_of, monitor_at, new_thread, status_by, waits_for}
use Rattle.jvms_machine.specs.Status.{is_bad, is_enabled}
use Rattle.jvms_machine.specs.Threads.{thread_of}
use Rattle.jvms_machine.specs.Turn.{IsReady, IsReadyToMake, decide, started_decision, items_after, state_after, thread_decision, turn}
use Rattle.jvms_machine.specs.declared.action.Effect.{Effect}
use Rattle.jvms_machine.specs.declared.machine.Limits.{Limits}
use Rattle.jvms_machine.specs.declared.machine.Outcome.{Outcome}
use Rattle.jvms_machine.specs.declared.state.Hold.{Hold}
use Rattle.jvms_machine.specs.declared.state.Initialisation.{Initialisation}
use Rattle.jvms_machine.specs.declared.state.Wait.{Wait}
use Rattle.jvms_machine.specs.declared.value.Value.{Value}
use Rattle.jvms_program.specs.Program.{IsProgram}
use Rattle.jvms_program.specs.declared.program.Class.{Class}
use Rattle.std.proofs.Common.{Bool, IsTrue, List, None, Option, Some, [], ap, arith, count_by, eq-eqb, false, inl, length, length-append, length-set, refl, slice_get, subst, sym, true, ℕ, ◌++◌, ◌+◌, ◌==◌, ◌∙◌, ◌∷◌, ◌≡◌}
use Rattle.std.proofs.lemmas.Bool.{cond-true, false≢true}
use Rattle.std.proofs.lemmas.Option.{none-some, same_Some}
use Rattle.std.specs.List.{filter}
use Rattle.jvms_machine.specs.declared.action.Action.TheVariants as action
use Rattle.jvms_machine.specs.declared.action.Decision.TheVariants as decision
use Rattle.jvms_machine.specs.declared.action.Effect.TheVariants as effect
use Rattle.jvms_machine.specs.declared.state.StackFrame.TheVariants as stack_frame

-- ---- Turns

-- A thread that takes a turn exists, and hasn't ended.
taken_lives : (program : List Class) (limits : Limits) (start : Start) (s : State) (t : ℕ) (thread : Thread) (ended : Bool) (pending : Option ℕ) (waits : Option Wait) (act : TurnAction) → started_decision program limits start s t thread (status_by ended pending waits) ≡ decision.Applies act → ended ≡ false
taken_lives program limits start s t thread true pending waits act makes = absurd (cc)
taken_lives program limits start s t thread false pending waits act makes = refl

thread_lives : (program : List Class) (limits : Limits) (start : Start) (s : State) (t : ℕ) (o : Option Thread) (act : TurnAction) → thread_decision program limits start s t o ≡ decision.Applies act → (thread : Thread) → o ≡ Some thread → thread.ended ≡ false
thread_lives program limits start s t None act makes thread at = absurd (none-some thread at)
thread_lives program limits start s t (Some other) act makes thread at =
    ap (λ (w : Thread). w.ended) (sym (same_Some other thread at)) ∙ taken_lives program limits start s t other other.ended other.pending other.waits act makes

pub decided_lives : (program : List Class) (limits : Limits) (start : Start) (s : State) (t : ℕ) (act : TurnAction) → decide program limits start s t ≡ decision.Applies act → (thread : Thread) → slice_get s.threads t ≡ Some thread → thread.ended ≡ false
unfolding decide
decided_lives program limits start s t act makes thread at = thread_lives program limits start s t (slice_get s.threads t) act makes thread at

thread_makes : (program : List Class) (limits : Limits) (start : Start) (s : State) (t : ℕ) (o : Option Thread) (act : TurnAction) → thread_decision program limits start s t o ≡ decision.Applies act → (own : Thread) × (o ≡ Some own)
thread_makes program limits start s t None act makes = absurd (cc)
thread_makes program limits start s t (Some own) act makes = (own, refl)

pub decided_makes : (program : List Class) (limits : Limits) (start : Start) (s : State) (t : ℕ) (act : TurnAction) → decide program limits start s t ≡ decision.Applies act → (own : Thread) × (slice_get s.threads t ≡ Some own)
unfolding decide
decided_makes program limits start s t act makes = thread_makes program limits start s t (slice_get s.threads t) act makes

-- The known properties of a machine's state.
pub record IsKnown (program : List Class) (limits : Limits) (start : Start) (s : State) : Type 0 where
  pub classes : IsProgram program
  pub within : IsTrue (are_limits limits)
  pub starts : IsStart start
  pub sound : Sound program limits s

joins_kept : (xs ys : List Thread) → AreSameThreads xs ys → (r : ℕ) → may_join ys (thread_of ys r) ≡ may_join xs (thread_of xs r)
joins_kept xs ys same r = ap (may_join ys) (started_kept r xs ys same) ∙ join_kept (thread_of xs r)
  where
    join_kept : (o : Option ℕ) → may_join ys o ≡ may_join xs o
    join_kept None = refl
    join_kept (Some v) = ended_kept v xs ys same

-- If the turn of thread u isn't Bad, it is as enabled after the turn of thread t, and isn't Bad then.
abbrev pub IsAsEnabled : List Class → Limits → Start → State → ℕ → ℕ → Type 0
IsAsEnabled program limits start s t u =
    is_bad (turn program limits start s u).outcome ≡ false →
    (is_enabled (turn program limits start (turn program limits start s t).state u).outcome ≡ is_enabled (turn program limits start s u).outcome)
    × (is_bad (turn program limits start (turn program limits start s t).state u).outcome ≡ false)

-- A turn that keeps what other threads wait for keeps whether they are enabled.
moved_same : (program : List Class) (limits : Limits) (start : Start) (s : State) (t u : ℕ) → IsKnown program limits start s → (u ≡ t → ⊥) → Moves t s (turn program limits start s t).state → KeepsHolds s.monitors (turn program limits start s t).state.monitors → (turn program limits start s t).state.initialisations ≡ s.initialisations → AreSized s.statics (turn program limits start s t).state.statics → ((r : ℕ) → waits_for r (slice_get s.threads u) ≡ true → WaitStays s (turn program limits start s t).state u r) → IsAsEnabled program limits start s t u
moved_same program limits start s t u known other moves holds initialisations statics waits =
    let after = (turn program limits start s t).state in
    let sound = known.sound in
    let sound_after : Sound program limits after = turn_keeps program limits start s t known.classes known.within known.starts sound in
    let stays : Stays (λ a b. b ≡ a) program limits s after u =
    record {
      relation = record { same = λ a b e. e };
      classes = known.classes;
      heap = moves.heap;
      statics = λ key. inl (statics key);
      sound = sound;
      sound_after = sound_after;
      asked = λ class. subst (λ (is : List Initialisation). Asked (λ a b. b ≡ a) u (slice_get s.initialisations class) (slice_get is class)) (sym initialisations) (AsBefore (slice_get s.initialisations class));
      enters = holds u;
      locks = locks_kept u s.heap after.heap s.threads s.monitors after.monitors moves.heap sound.monitors (holds u);
      joins = joins_kept s.threads after.threads moves.threads;
      retakes = λ r is. retakes_by (λ a b. b ≡ a) (λ a b e. e) s after u r sound.monitors sound_after.monitors is (moves.others u other) (holds u r) (waits r is);
    } in
    λ fit. (
      outcomes_same (λ a b. b ≡ a) program limits start s after u stays (moves.others u other) fit,
      outcomes_fit (λ a b. b ≡ a) program limits start s after u stays (moves.others u other) (λ _ free. false≢true (free false)) fit,
    )

-- The state and the outcome of a turn are those of its decision.
pub decided_state : (program : List Class) (limits : Limits) (start : Start) (s : State) (t : ℕ) (d : TurnDecision) → decide program limits start s t ≡ d → (turn program limits start s t).state ≡ state_after program start s t d
unfolding turn
decided_state program limits start s t d is = ap (λ e. state_after program start s t e) is

decided_outcome : (program : List Class) (limits : Limits) (start : Start) (s : State) (t : ℕ) (d : TurnDecision) → decide program limits start s t ≡ d → (turn program limits start s t).outcome ≡ outcome_of d
unfolding turn
decided_outcome program limits start s t d is = ap (λ (e : TurnDecision). outcome_of e) is

action_releases : (program : List Class) (limits : Limits) (start : Start) (s : State) (t : ℕ) (act : TurnAction) → IsKnown program limits start s → decide program limits start s t ≡ decision.Applies act → filter is_release (items_of program t act) ≡ releases_between t s (applied_to program start s t act)
unfolding turn
action_releases program limits start s t act known makes =
    subst (λ d. filter is_release (items_after program t d) ≡ releases_between t s (state_after program start s t d)) makes (turn_is_told program limits start s t known.classes known.within known.starts known.sound).releases

pub action_known : (program : List Class) (limits : Limits) (start : Start) (s : State) (t : ℕ) (act : TurnAction) → IsKnown program limits start s → decide program limits start s t ≡ decision.Applies act → IsKnownAction program s act
action_known program limits start s t act known makes = subst (IsKnownDecision program s) makes (decided_known program limits start s t known.classes known.sound)

-- Another thread's wait stays.
pub action_keeps_waits : (program : List Class) (limits : Limits) (start : Start) (s : State) (t u : ℕ) (act : TurnAction) → IsKnown program limits start s → (u ≡ t → ⊥) → decide program limits start s t ≡ decision.Applies act → (r : ℕ) → waits_for r (slice_get s.threads u) ≡ true → WaitStays s (turn program limits start s t).state u r
action_keeps_waits program limits start s t u act known other makes r waits =
    subst (λ (after : State). WaitStays s after u r) (sym (decided_state program limits start s t (decision.Applies act) makes))
    (action_waits program start s t u r other known.sound.waiters waits act (action_known program limits start s t act known makes))

-- A turn that isn't taken changes nothing.
pub untaken_same : (program : List Class) (limits : Limits) (start : Start) (s : State) (t u : ℕ) (o : Outcome) → decide program limits start s t ≡ decision.Stays o → IsAsEnabled program limits start s t u
untaken_same program limits start s t u o is fit =
    let kept = decided_state program limits start s t (decision.Stays o) is in
    (ap (λ (r : State). is_enabled (turn program limits start r u).outcome) kept, ap (λ (r : State). is_bad (turn program limits start r u).outcome) kept ∙ fit)

pub quiet_by : (program : List Class) (limits : Limits) (start : Start) (s : State) (t u : ℕ) (d : TurnDecision) → IsKnown program limits start s → (u ≡ t → ⊥) → decide program limits start s t ≡ d → is_quiet_decision d ≡ true → IsAsEnabled program limits start s t u
quiet_by program limits start s t u (decision.Stays o) known other is quiet = untaken_same program limits start s t u o is
quiet_by program limits start s t u (decision.Applies act) known other is quiet =
    let made = sym (decided_state program limits start s t (decision.Applies act) is) in
    let ready : IsReady start s t act = subst (IsReadyToMake start s t) is (decided_is_ready program limits start s t known.classes known.within known.starts known.sound) in
    let releases = action_releases program limits start s t act known is in
    let effect_is = action_known program limits start s t act known is in
    moved_same program limits start s t u known other
    (subst (Moves t s) made (action_moves program limits start s t (decided_lives program limits start s t act is) act (quiet_starts act quiet) (quiet_goes_on act quiet) effect_is))
    (subst (λ (r : State). KeepsHolds s.monitors r.monitors) made (action_keeps program limits start s t known.sound act quiet ready releases))
    (subst (λ (r : State). r.initialisations ≡ s.initialisations) made (quiet_initialises_none program start s t act quiet))
    (subst (λ (r : State). AreSized s.statics r.statics) made (action_statics program start s t act (quiet_begins_none act quiet) effect_is))
    (action_keeps_waits program limits start s t u act known other is)

pub quiet_leaves_enabled : (program : List Class) (limits : Limits) (start : Start) (s : State) (t u : ℕ) → IsProgram program → IsTrue (are_limits limits) → IsStart start → Sound program limits s → (u ≡ t → ⊥) → is_quiet_decision (decide program limits start s t) ≡ true → IsAsEnabled program limits start s t u
quiet_leaves_enabled program limits start s t u is are starts sound other quiet =
    quiet_by program limits start s t u (decide program limits start s t) (record { classes = is; within = are; starts = starts; sound = sound }) other refl quiet

-- ---- Turns by their states

-- An action after which there are as many threads starts none.
as_many_starts : (s made : State) (t : ℕ) (change : Thread → Thread) → length (with_changed made t change).threads ≡ length made.threads
as_many_starts s made t change = as_many made.threads t change (slice_get made.threads t)
  where
    as_many : (threads : List Thread) (v : ℕ) (how : Thread → Thread) (o : Option Thread) → length (changed_to threads v how o) ≡ length threads
    as_many threads v how None = refl
    as_many threads v how (Some thread) = length-set threads v (how thread)

effect_starts_none : (program : List Class) (s : State) (t : ℕ) (operands : List Value) (what : Effect (List ℕ)) → length (after_effect program s t operands what).threads ≡ length s.threads → starts_none what ≡ true
effect_starts_none program s t operands (effect.Starts r u) same = let longer : length (s.threads ++ new_thread (Some r) ∷ []) ≡ length s.threads + 1 = length-append s.threads (new_thread (Some r) ∷ []) in absurd (omega arith)
effect_starts_none program s t operands _ same = refl

action_starts_none : (program : List Class) (start : Start) (s : State) (t : ℕ) (act : TurnAction) → length (applied_to program start s t act).threads ≡ length s.threads → starts_no_thread act ≡ true
unfolding applied_to
action_starts_none program start s t (action.Reaches what act) same =
    effect_starts_none program s t (operands_of (slice_get s.threads t)) what (sym (as_many_starts s (after_effect program s t (operands_of (slice_get s.threads t)) what) t (thread_after_action act)) ∙ same)
action_starts_none program start s t _ same = refl

-- An initialisation that begins pushes a frame, so the initialisations aren't the same.
begins_anew : (program : List Class) (limits : Limits) (start : Start) (s : State) (t class : ℕ) (own : Thread) → slice_get s.threads t ≡ Some own → Sound program limits s → Sound program limits (applied_to program start s t (action.Begins class)) → (applied_to program start s t (action.Begins class)).initialisations ≡ s.initialisations → ⊥
unfolding applied_to
begins_anew program limits start s t class own at sound sound_after same =
    let test = is_initialisation_of class in
    let made = with_class_constants s (slice_get program class) in
    let threads_are = (constants_beside s (slice_get program class)).threads in
    let there : slice_get (changed_to made.threads t (with_initialisation_frame class) (slice_get made.threads t)) t ≡ Some (with_initialisation_frame class own) =
    ap (λ (ts : List Thread). slice_get (changed_to ts t (with_initialisation_frame class) (slice_get ts t)) t) threads_are
    ∙ ap (λ o. slice_get (changed_to s.threads t (with_initialisation_frame class) o) t) at ∙ get_set_same s.threads t own (with_initialisation_frame class own) at in
    let before : count_by test own.frames ≡ frames_in_progress t (slice_get s.initialisations class) = sym (ap (initialisation_frames class) at) ∙ sound.initialised t class in
    let later : count_by test (with_initialisation_frame class own).frames ≡ frames_in_progress t (slice_get s.initialisations class) =
    sym (ap (initialisation_frames class) there) ∙ sound_after.initialised t class ∙ ap (λ (is : List Initialisation). frames_in_progress t (slice_get is class)) same in
    let longer : count_by test (with_initialisation_frame class own).frames ≡ 1 + count_by test own.frames =
    count_by_cons test (stack_frame.Initialisation class false) own.frames ∙ ap (λ k. k + count_by test own.frames) (cond-true (class == class) 1 0 (eq-eqb class class refl)) in
    absurd (omega (arith, before, later, longer))

kept_begins_none : (program : List Class) (limits : Limits) (start : Start) (s : State) (t : ℕ) (own : Thread) (act : TurnAction) → slice_get s.threads t ≡ Some own → Sound program limits s → Sound program limits (applied_to program start s t act) → (applied_to program start s t act).initialisations ≡ s.initialisations → begins_none act ≡ true
kept_begins_none program limits start s t own (action.Begins class) at sound sound_after same = absurd (begins_anew program limits start s t class own at sound sound_after same)
kept_begins_none program limits start s t own _ at sound sound_after same = refl

kept_by : (program : List Class) (limits : Limits) (start : Start) (s : State) (t u : ℕ) (d : TurnDecision) → IsKnown program limits start s → (u ≡ t → ⊥) → decide program limits start s t ≡ d → Keeps s (turn program limits start s t) → IsAsEnabled program limits start s t u
kept_by program limits start s t u (decision.Stays o) known other is keeps = untaken_same program limits start s t u o is
kept_by program limits start s t u (decision.Applies act) known other is keeps =
    let made = decided_state program limits start s t (decision.Applies act) is in
    let goes_on : ends_thread (outcome_of_action act) ≡ false = ap ends_thread (sym (decided_outcome program limits start s t (decision.Applies act) is)) ∙ keeps.continues in
    let starts = action_starts_none program start s t act (ap (λ (r : State). length r.threads) (sym made) ∙ keeps.threads) in
    let own = decided_makes program limits start s t act is in
    let effect_is = action_known program limits start s t act known is in
    let sound_after : Sound program limits (applied_to program start s t act) = subst (λ (r : State). Sound program limits r) made (turn_keeps program limits start s t known.classes known.within known.starts known.sound) in
    let begins = kept_begins_none program limits start s t own.0 act own.1 known.sound sound_after (ap (λ (r : State). r.initialisations) (sym made) ∙ keeps.initialisations) in
    moved_same program limits start s t u known other
    (subst (Moves t s) (sym made) (action_moves program limits start s t (decided_lives program limits start s t act is) act starts goes_on effect_is))
    (λ v r. ap (λ (ms : List (ℕ × Hold)). may_enter v (monitor_at ms r)) keeps.monitors)
    keeps.initialisations
    (subst (λ (r : State). AreSized s.statics r.statics) (sym made) (action_statics program start s t act begins effect_is))
    (action_keeps_waits program limits start s t u act known other is)

pub kept_leaves_enabled : (program : List Class) (limits : Limits) (start : Start) (s : State) (t u : ℕ) → IsProgram program → IsTrue (are_limits limits) → IsStart start → Sound program limits s → (u ≡ t → ⊥) → Keeps s (turn program limits start s t) → IsAsEnabled program limits start s t u
kept_leaves_enabled program limits start s t u is are starts sound other keeps =
    kept_by program limits start s t u (decide program limits start s t) (record { classes = is; within = are; starts = starts; sound = sound }) other refl keeps
