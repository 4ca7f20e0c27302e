-- The items of a turn are of its thread. What a verdict sees of marks and of items of another thread doesn't depend on
-- their order.
use Rattle.std.proofs.Common.{Bool, List, None, Option, Some, [], ap, cond, false, refl, subst, sym, ℕ, ◌++◌, ◌∙◌, ◌∷◌, ◌≡◌, ⊎_elim}
use Rattle.std.proofs.lemmas.Bool.{cases_eq, cond_both, ne_eqb}
use Rattle.std.proofs.lemmas.List.{append-nil}
use Rattle.std.proofs.lemmas.List.Elements.{filter-append}
use Rattle.std.specs.List.{filter}
use Rattle.departures.specs.Reductions.{IsLikeness, seen_by}
use Rattle.jvms_machine.specs.Actions.{acquire_items, effect_items, enter_items, event, exit_items, instance_variable, items_of, lock_items, mark, release_items, static_variable, unlock_items}
use Rattle.jvms_machine.specs.Decisions.{TurnAction, TurnDecision}
use Rattle.jvms_machine.specs.Events.{thread_of}
use Rattle.jvms_machine.specs.Turn.{items_after}
use Rattle.jvms_machine.specs.declared.action.Action.TheVariants as action
use Rattle.jvms_machine.specs.declared.action.Decision.TheVariants as decision
use Rattle.jvms_machine.specs.declared.action.Effect.{Effect}
use Rattle.jvms_machine.specs.declared.action.Effect.TheVariants as effect
use Rattle.jvms_machine.specs.declared.action.Lock.{Lock}
use Rattle.jvms_machine.specs.declared.action.Lock.TheVariants as lock
use Rattle.jvms_machine.specs.declared.action.MonitorUse.{MonitorUse}
use Rattle.jvms_machine.specs.declared.trace.Item.{Item}
use Rattle.jvms_machine.specs.declared.trace.Item.TheVariants as item
use Rattle.jvms_machine.specs.declared.trace.Variable.{Variable}
use Rattle.jvms_machine.specs.declared.trace.Variable.TheVariants as variable
use Rattle.jvms_program.specs.BuiltIn.{is_built_in}
use Rattle.jvms_program.specs.Program.{key_of}
use Rattle.jvms_program.specs.declared.key.MethodKey.{MethodKey}
use Rattle.jvms_program.specs.declared.number.MethodNumber.{MethodNumber}
use Rattle.jvms_program.specs.declared.program.Class.{Class}
use Rattle.mark_laws.specs.Swaps.{AreAlike, is_of}
use Rattle.local_turns.specs.Turns.{View, view_of}
use Rattle.velodrome.specs.Transactions.{is_event}

-- ---- Items of one thread

-- No item is of another thread than this.
abbrev pub AreOf : ℕ → List Item → Type 0
AreOf t items = (v : ℕ) → (t ≡ v → ⊥) → filter (is_of v) items ≡ []

none_of : (t : ℕ) → AreOf t []
none_of t v other = refl

one_of : (t : ℕ) (i : Item) → thread_of i ≡ t → AreOf t (i ∷ [])
one_of t i is v other = ap (λ b. cond b (i ∷ []) []) (ne_eqb (thread_of i) v (λ same. other (sym is ∙ same)))

both_of : (t : ℕ) (items more : List Item) → AreOf t items → AreOf t more → AreOf t (items ++ more)
both_of t items more first second v other =
    filter-append (is_of v) items more ∙ (ap (λ xs. xs ++ filter (is_of v) more) (first v other) ∙ second v other)

mark_of : (t : ℕ) (make : MethodKey → Item) → ((key : MethodKey) → thread_of (make key) ≡ t) → (o : Option MethodKey) → AreOf t (mark make o)
mark_of t make is None = none_of t
mark_of t make is (Some key) = cond_both (is_built_in key.class) _ _ (AreOf t) (λ _. none_of t) (λ _. one_of t (make key) (is key))

entered_of : (program : List Class) (t : ℕ) (m : MethodNumber) → AreOf t (enter_items program t m)
entered_of program t m = mark_of t (λ key. item.Enter t key) (λ key. refl) (key_of program m)

exited_of : (program : List Class) (t : ℕ) (m : MethodNumber) → AreOf t (exit_items program t m)
exited_of program t m = mark_of t (λ key. item.Exit t key) (λ key. refl) (key_of program m)

acquired_of : (t : ℕ) (monitor : MonitorUse) → AreOf t (acquire_items t monitor)
acquired_of t monitor = cond_both monitor.outermost _ _ (AreOf t) (λ _. one_of t (item.Acquire t monitor.reference) refl) (λ _. none_of t)

released_of : (t : ℕ) (monitor : MonitorUse) → AreOf t (release_items t monitor)
released_of t monitor = cond_both monitor.outermost _ _ (AreOf t) (λ _. one_of t (item.Release t monitor.reference) refl) (λ _. none_of t)

locked_of : (t : ℕ) (locked : Lock) → AreOf t (lock_items t locked)
locked_of t lock.Nothing = none_of t
locked_of t (lock.Monitor monitor) = acquired_of t monitor
locked_of t (lock.NewClass class r) = one_of t (item.Acquire t r) refl

unlocked_of : (t : ℕ) (unlock : Option MonitorUse) → AreOf t (unlock_items t unlock)
unlocked_of t None = none_of t
unlocked_of t (Some monitor) = released_of t monitor

event_of : (t : ℕ) (make : Variable → Item) → ((v : Variable) → thread_of (make v) ≡ t) → (o : Option Variable) → AreOf t (event make o)
event_of t make is None = none_of t
event_of t make is (Some v) = one_of t (make v) (is v)

effect_of : (program : List Class) (t : ℕ) (what : Effect (List ℕ)) → AreOf t (effect_items program t what)
effect_of program t effect.Nothing = none_of t
effect_of program t (effect.GetField r n) = event_of t (λ v. item.Read t v) (λ v. refl) (instance_variable program r n)
effect_of program t (effect.PutField r n v) = event_of t (λ v. item.Write t v) (λ v. refl) (instance_variable program r n)
effect_of program t (effect.GetStatic n) = event_of t (λ v. item.Read t v) (λ v. refl) (static_variable program n)
effect_of program t (effect.PutStatic n v) = event_of t (λ v. item.Write t v) (λ v. refl) (static_variable program n)
effect_of program t (effect.LoadElement r i) = one_of t (item.Read t (variable.Element r i)) refl
effect_of program t (effect.StoreElement r i v) = one_of t (item.Write t (variable.Element r i)) refl
effect_of program t (effect.Creates what) = none_of t
effect_of program t (effect.Prints what ends_line) = none_of t
effect_of program t (effect.Locks monitor) = acquired_of t monitor
effect_of program t (effect.Unlocks monitor) = released_of t monitor
effect_of program t (effect.Starts r u) = one_of t (item.Fork t u) refl
effect_of program t (effect.Joins u) = one_of t (item.Join t u) refl
effect_of program t (effect.Notifies r all) = none_of t

entered_and_locked_of : (program : List Class) (t : ℕ) (m : MethodNumber) (locked : Lock) → AreOf t (enter_items program t m ++ lock_items t locked)
entered_and_locked_of program t m locked = both_of t (enter_items program t m) (lock_items t locked) (entered_of program t m) (locked_of t locked)

unlocked_and_exited_of : (program : List Class) (t : ℕ) (m : MethodNumber) (unlock : Option MonitorUse) → AreOf t (unlock_items t unlock ++ exit_items program t m)
unlocked_and_exited_of program t m unlock = both_of t (unlock_items t unlock) (exit_items program t m) (unlocked_of t unlock) (exited_of program t m)

action_of : (program : List Class) (t : ℕ) (act : TurnAction) → AreOf t (items_of program t act)
unfolding items_of
action_of program t (action.Goes act) = none_of t
action_of program t (action.Reaches what act) = effect_of program t what
action_of program t (action.Begins class) = none_of t
action_of program t (action.Finishes class) = none_of t
action_of program t (action.Enters method body locked) = entered_and_locked_of program t method locked
action_of program t (action.Ends method result unlock) = unlocked_and_exited_of program t method unlock
action_of program t (action.Calls method body takes locked) = entered_and_locked_of program t method locked
action_of program t (action.Returns method result unlock) = unlocked_and_exited_of program t method unlock
action_of program t (action.Initialises method body) = entered_of program t method
action_of program t (action.Throws r) = none_of t
action_of program t (action.Catches r target) = none_of t
action_of program t (action.Unwinds method last unlock) = unlocked_and_exited_of program t method unlock
action_of program t (action.FailsToUnlock method e last) = exited_of program t method
action_of program t (action.FailsInitialisation class e last) = none_of t
action_of program t (action.Waits w) = one_of t (item.Release t w.reference) refl
action_of program t (action.Retakes w) = one_of t (item.Acquire t w.reference) refl
action_of program t (action.Raises e) = none_of t
action_of program t (action.Fails e) = none_of t

pub decided_of : (program : List Class) (t : ℕ) (d : TurnDecision) → AreOf t (items_after program t d)
decided_of program t (decision.Applies act) = action_of program t act
decided_of program t (decision.Stays o) = none_of t

-- ---- Marks

abbrev pub AreMarks : List Item → Type 0
AreMarks items = filter is_event items ≡ []

marked : (make : MethodKey → Item) → ((key : MethodKey) → is_event (make key) ≡ false) → (o : Option MethodKey) → AreMarks (mark make o)
marked make is None = refl
marked make is (Some key) = cond_both (is_built_in key.class) _ _ AreMarks (λ _. refl) (λ _. ap (λ b. cond b (make key ∷ []) []) (is key))

pub entered_marks : (program : List Class) (t : ℕ) (m : MethodNumber) → AreMarks (enter_items program t m ++ [])
entered_marks program t m = subst AreMarks (sym (append-nil (enter_items program t m))) (marked (λ key. item.Enter t key) (λ key. refl) (key_of program m))

pub exited_marks : (program : List Class) (t : ℕ) (m : MethodNumber) → AreMarks (exit_items program t m)
exited_marks program t m = marked (λ key. item.Exit t key) (λ key. refl) (key_of program m)

-- ---- Views

pub same_view : (items others : List Item) → filter is_event items ≡ filter is_event others → ((v : ℕ) → filter (is_of v) items ≡ filter (is_of v) others) → view_of items ≡ view_of others
same_view items others events threads = λ i. record { events = events i; threads = λ v. threads v i }

pub alike_by : (items others : List Item) → view_of items ≡ view_of others → AreAlike items others
alike_by items others same = record { events = ap (λ (w : View). w.events) same; threads = λ t. ap (λ (w : View). w.threads t) same }

joined_by : (p : Item → Bool) (xs ys us vs : List Item) → filter p xs ≡ filter p ys → filter p us ≡ filter p vs → filter p (xs ++ us) ≡ filter p (ys ++ vs)
joined_by p xs ys us vs first second =
    filter-append p xs us ∙ (ap (λ zs. zs ++ filter p us) first ∙ (ap (λ zs. filter p ys ++ zs) second ∙ sym (filter-append p ys vs)))

pub views_are_a_likeness : IsLikeness (seen_by view_of)
views_are_a_likeness =
    record {
      same = λ xs. refl;
      through = λ xs ys zs first second. first ∙ second;
      joined = λ xs ys us vs first second.
          let a = alike_by xs ys first in
          let b = alike_by us vs second in
          same_view (xs ++ us) (ys ++ vs) (joined_by is_event xs ys us vs a.events b.events) (λ v. joined_by (is_of v) xs ys us vs (a.threads v) (b.threads v));
    }

-- Lists of which a test passes only one may be joined in both orders.
either_way : (p : Item → Bool) (xs ys : List Item) → filter p xs ≡ [] → filter p (xs ++ ys) ≡ filter p (ys ++ xs)
either_way p xs ys none =
    filter-append p xs ys
    ∙ (ap (λ zs. zs ++ filter p ys) none
    ∙ (sym (append-nil (filter p ys)) ∙ (ap (λ zs. filter p ys ++ zs) (sym none) ∙ sym (filter-append p ys xs))))

-- Marks of a thread and items of another give the same view in both orders.
pub marks_slide : (t u : ℕ) (xs ys : List Item) → (u ≡ t → ⊥) → AreMarks xs → AreOf t xs → AreOf u ys → view_of (xs ++ ys) ≡ view_of (ys ++ xs)
marks_slide t u xs ys other marks own others =
    same_view (xs ++ ys) (ys ++ xs) (either_way is_event xs ys marks)
    (λ v. ⊎_elim
    (λ (same : v ≡ t). sym (either_way (is_of v) ys xs (others v (λ is. other (is ∙ same)))))
    (λ differs. either_way (is_of v) xs ys (own v (λ is. differs (sym is))))
    (cases_eq v t))
