-- The number of events of a trace: all its items but the marks. A turn has at most one.
use Rattle.std.proofs.Common.{◌≡◌, ℕ, ◌+◌, ◌≤◌, List, [], ◌∷◌, ◌++◌, length, fold, Option, Some, None, refl, ap, ◌∙◌, arith, length-append}
use Rattle.std.specs.List.{filter}
use Rattle.std.proofs.lemmas.Bool.{cond_both}
use Rattle.std.proofs.lemmas.List.Elements.{filter-append}
use Rattle.jvms_machine.specs.declared.machine.Limits.{Limits}
use Rattle.jvms_machine.specs.declared.trace.Item.{Item}
use Rattle.jvms_machine.specs.declared.trace.Item.TheVariants as item
use Rattle.jvms_machine.specs.declared.trace.Variable.{Variable}
use Rattle.jvms_machine.specs.declared.action.MonitorUse.{MonitorUse}
use Rattle.jvms_machine.specs.declared.action.Lock.{Lock}
use Rattle.jvms_machine.specs.declared.action.Lock.TheVariants as lock
use Rattle.jvms_machine.specs.declared.action.Effect.{Effect}
use Rattle.jvms_machine.specs.declared.action.Effect.TheVariants as effect
use Rattle.jvms_machine.specs.declared.action.Action.TheVariants as action
use Rattle.jvms_machine.specs.declared.action.Decision.TheVariants as decision
use Rattle.jvms_program.specs.declared.key.MethodKey.{MethodKey}
use Rattle.jvms_program.specs.declared.number.MethodNumber.{MethodNumber}
use Rattle.jvms_program.specs.declared.program.Class.{Class}
use Rattle.jvms_program.specs.BuiltIn.{is_built_in}
use Rattle.jvms_program.specs.Program.{key_of}
use Rattle.jvms_machine.specs.Decisions.{TurnAction, TurnDecision}
use Rattle.jvms_machine.specs.State.{State}
use Rattle.jvms_machine.specs.Start.{Start}
use Rattle.jvms_machine.specs.Actions.{acquire_items, effect_items, enter_items, event, exit_items, instance_variable, items_of, lock_items, mark, release_items, static_variable, unlock_items}
use Rattle.jvms_machine.specs.Run.{run_from}
use Rattle.jvms_machine.specs.Turn.{decide, items_after, turn}
use Rattle.velodrome.specs.Specification.{Specification}
use Rattle.velodrome.specs.Transactions.{TraceState, is_event, opening_trace_state, trace_state_of, state_after_item}

abbrev pub events_among : List Item → ℕ
events_among items = length (filter is_event items)

pub events_append : (items more : List Item) → events_among (items ++ more) ≡ events_among items + events_among more
events_append items more = ap length (filter-append is_event items more) ∙ length-append (filter is_event items) (filter is_event more)

-- ---- The events of a trace state

-- An item that is an event adds itself to the events.
step_counts : (lines : Specification) (w : TraceState) (i : Item) → length (state_after_item lines w i).events ≡ length w.events + events_among (i ∷ [])
unfolding state_after_item
step_counts lines w (item.Read t v) = length-append w.events _
step_counts lines w (item.Write t v) = length-append w.events _
step_counts lines w (item.Acquire t r) = length-append w.events _
step_counts lines w (item.Release t r) = length-append w.events _
step_counts lines w (item.Fork t u) = length-append w.events _
step_counts lines w (item.Join t u) = length-append w.events _
step_counts lines w (item.Enter t m) = omega arith
step_counts lines w (item.Exit t m) = omega arith

from_counts : (lines : Specification) (w : TraceState) (items : List Item) → length (fold (state_after_item lines) w items).events ≡ length w.events + events_among items
from_counts lines w [] = omega arith
from_counts lines w (i ∷ items) =
    let rest = from_counts lines (state_after_item lines w i) items in
    let first = step_counts lines w i in
    let both = events_append (i ∷ []) items in
    omega arith

-- A trace state has as many events as its items have.
pub trace_state_counts : (lines : Specification) (items : List Item) → length (trace_state_of lines items).events ≡ events_among items
unfolding trace_state_of
trace_state_counts lines items = from_counts lines opening_trace_state items ∙ omega arith

-- ---- The events of a turn

no_event_marked : (make : MethodKey → Item) → ((key : MethodKey) → filter is_event (make key ∷ []) ≡ []) → (o : Option MethodKey) → events_among (mark make o) ≡ 0
no_event_marked make none None = refl
no_event_marked make none (Some key) =
    cond_both (is_built_in key.class) _ _ (λ items. events_among items ≡ 0) (λ _. refl) (λ _. ap length (none key))

no_event_entered : (program : List Class) (t : ℕ) (m : MethodNumber) → events_among (enter_items program t m) ≡ 0
no_event_entered program t m = no_event_marked (λ key. item.Enter t key) (λ key. refl) (key_of program m)

no_event_exited : (program : List Class) (t : ℕ) (m : MethodNumber) → events_among (exit_items program t m) ≡ 0
no_event_exited program t m = no_event_marked (λ key. item.Exit t key) (λ key. refl) (key_of program m)

one_acquired : (t : ℕ) (monitor : MonitorUse) → events_among (acquire_items t monitor) ≤ 1
one_acquired t monitor = cond_both monitor.outermost _ _ (λ items. events_among items ≤ 1) (λ _. omega arith) (λ _. omega arith)

one_released : (t : ℕ) (monitor : MonitorUse) → events_among (release_items t monitor) ≤ 1
one_released t monitor = cond_both monitor.outermost _ _ (λ items. events_among items ≤ 1) (λ _. omega arith) (λ _. omega arith)

one_locked : (t : ℕ) (locked : Lock) → events_among (lock_items t locked) ≤ 1
one_locked t lock.Nothing = omega arith
one_locked t (lock.Monitor monitor) = one_acquired t monitor
one_locked t (lock.NewClass class r) = omega arith

one_unlocked : (t : ℕ) (unlock : Option MonitorUse) → events_among (unlock_items t unlock) ≤ 1
one_unlocked t None = omega arith
one_unlocked t (Some monitor) = one_released t monitor

one_read : (t : ℕ) (o : Option Variable) → events_among (event (λ v. item.Read t v) o) ≤ 1
one_read t None = omega arith
one_read t (Some v) = omega arith

one_written : (t : ℕ) (o : Option Variable) → events_among (event (λ v. item.Write t v) o) ≤ 1
one_written t None = omega arith
one_written t (Some v) = omega arith

effect_is_one : (program : List Class) (t : ℕ) (what : Effect (List ℕ)) → events_among (effect_items program t what) ≤ 1
effect_is_one program t effect.Nothing = omega arith
effect_is_one program t (effect.GetField r n) = one_read t (instance_variable program r n)
effect_is_one program t (effect.PutField r n v) = one_written t (instance_variable program r n)
effect_is_one program t (effect.GetStatic n) = one_read t (static_variable program n)
effect_is_one program t (effect.PutStatic n v) = one_written t (static_variable program n)
effect_is_one program t (effect.LoadElement r i) = omega arith
effect_is_one program t (effect.StoreElement r i v) = omega arith
effect_is_one program t (effect.Creates what) = omega arith
effect_is_one program t (effect.Prints what ends_line) = omega arith
effect_is_one program t (effect.Locks monitor) = one_acquired t monitor
effect_is_one program t (effect.Unlocks monitor) = one_released t monitor
effect_is_one program t (effect.Starts r u) = omega arith
effect_is_one program t (effect.Joins u) = omega arith
effect_is_one program t (effect.Notifies r all) = omega arith

-- A call has at most one event with what it locks, and so has a return with what it unlocks.
entered_is_one : (program : List Class) (t : ℕ) (m : MethodNumber) (locked : Lock) → events_among (enter_items program t m ++ lock_items t locked) ≤ 1
entered_is_one program t m locked =
    let both = events_append (enter_items program t m) (lock_items t locked) in
    let none = no_event_entered program t m in
    let one = one_locked t locked in
    omega arith

exited_is_one : (program : List Class) (t : ℕ) (m : MethodNumber) (unlock : Option MonitorUse) → events_among (unlock_items t unlock ++ exit_items program t m) ≤ 1
exited_is_one program t m unlock =
    let both = events_append (unlock_items t unlock) (exit_items program t m) in
    let none = no_event_exited program t m in
    let one = one_unlocked t unlock in
    omega arith

action_is_one : (program : List Class) (t : ℕ) (act : TurnAction) → events_among (items_of program t act) ≤ 1
unfolding items_of
action_is_one program t (action.Goes act) = omega arith
action_is_one program t (action.Reaches what act) = effect_is_one program t what
action_is_one program t (action.Begins class) = omega arith
action_is_one program t (action.Finishes class) = omega arith
action_is_one program t (action.Enters method body locked) = entered_is_one program t method locked
action_is_one program t (action.Ends method result unlock) = exited_is_one program t method unlock
action_is_one program t (action.Calls method body takes locked) = entered_is_one program t method locked
action_is_one program t (action.Returns method result unlock) = exited_is_one program t method unlock
action_is_one program t (action.Initialises method body) = let none = no_event_entered program t method in omega arith
action_is_one program t (action.Throws r) = omega arith
action_is_one program t (action.Catches r target) = omega arith
action_is_one program t (action.Unwinds method last unlock) = exited_is_one program t method unlock
action_is_one program t (action.FailsToUnlock method e last) = let none = no_event_exited program t method in omega arith
action_is_one program t (action.FailsInitialisation class e last) = omega arith
action_is_one program t (action.Waits w) = omega arith
action_is_one program t (action.Retakes w) = omega arith
action_is_one program t (action.Raises e) = omega arith
action_is_one program t (action.Fails e) = omega arith

decision_is_one : (program : List Class) (t : ℕ) (d : TurnDecision) → events_among (items_after program t d) ≤ 1
decision_is_one program t (decision.Applies act) = action_is_one program t act
decision_is_one program t (decision.Stays o) = omega arith

-- A turn has at most one event.
pub turn_has_one_event : (program : List Class) (limits : Limits) (start : Start) (s : State) (t : ℕ) → events_among (turn program limits start s t).items ≤ 1
unfolding turn
turn_has_one_event program limits start s t = decision_is_one program t (decide program limits start s t)

-- ---- The events of a run

-- A run has at most one event for each choice.
run_counts : (program : List Class) (limits : Limits) (start : Start) (s : State) (choices : List ℕ) → events_among (run_from program limits start s choices).items ≤ length choices
unfolding run_from
run_counts program limits start s [] = omega arith
run_counts program limits start s (t ∷ ts) =
    let row = turn program limits start s t in
    let first = turn_has_one_event program limits start s t in
    let rest = run_counts program limits start row.state ts in
    let both = events_append row.items (run_from program limits start row.state ts).items in
    omega arith

-- So have the trace state of its items, and that of any first items.
pub run_has_few_events : (lines : Specification) (program : List Class) (limits : Limits) (start : Start) (s : State) (choices : List ℕ) → length (trace_state_of lines (run_from program limits start s choices).items).events ≤ length choices
run_has_few_events lines program limits start s choices =
    let all = trace_state_counts lines (run_from program limits start s choices).items in
    let few = run_counts program limits start s choices in
    omega arith

pub run_begins_with_few_events : (lines : Specification) (program : List Class) (limits : Limits) (start : Start) (s : State) (choices : List ℕ) (before after : List Item) → (run_from program limits start s choices).items ≡ before ++ after → length (trace_state_of lines before).events ≤ length choices
run_begins_with_few_events lines program limits start s choices before after parts =
    let first = trace_state_counts lines before in
    let few = run_counts program limits start s choices in
    let both = ap events_among parts ∙ events_append before after in
    omega arith
