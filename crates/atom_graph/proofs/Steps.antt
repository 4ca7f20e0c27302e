-- How an item changes a trace state.
use Rattle.std.proofs.Common.{◌≡◌, ℕ, ◌+◌, ◌≤◌, true, false, if◌then◌else◌, ◌⊎◌, inl, inr, List, [], ◌∷◌, length, fold, Option, Some, None, refl, sym, ap, subst, ◌∙◌, arith, true≢false}
use Rattle.std.proofs.lemmas.Bool.{cases_eq, cases_Bool, eq-eqb, ne_eqb}
use Rattle.std.proofs.lemmas.List.{length_push}
use Rattle.std.proofs.lemmas.List.Sums.{fold-append}
use Rattle.std.proofs.lemmas.Option.{none-some}
use Rattle.jvms_program.specs.declared.key.MethodKey.{MethodKey}
use Rattle.jvms_machine.specs.declared.trace.Item.{Item}
use Rattle.jvms_machine.specs.declared.trace.Item.TheVariants as item
use Rattle.jvms_machine.specs.Events.{thread_of}
use Rattle.velodrome.specs.Reach.{IsOpen}
use Rattle.velodrome.specs.Specification.{Specification}
use Rattle.velodrome.specs.Transactions.{ThreadState, Event, TraceState, transactions_after, with_entry, with_exit, with_event, is_event, next_transaction, opening_trace_state, trace_state_of, state_after_item, with_thread_state}
use Rattle.serial_order.proofs.Spans.{IsOwned, owned_step}
use Rattle.serial_order.proofs.TraceStates.{trace_state_counted}
use Rattle.atom_graph.specs.Checking.{Fed, state_of_fed, with_item}

-- ---- One more item

pub trace_state_more : (fed : Fed) (i : Item) → state_of_fed (with_item i fed) ≡ state_after_item fed.lines (state_of_fed fed) i
unfolding trace_state_of
trace_state_more fed i = fold-append (state_after_item fed.lines) opening_trace_state fed.items (i ∷ [])

pub event_is : (lines : Specification) (w : TraceState) (i : Item) → is_event i ≡ true → state_after_item lines w i ≡ with_event lines i (w.threads (thread_of i)) (next_transaction (w.threads (thread_of i)).transaction w.transactions) w
unfolding state_after_item
event_is lines w (item.Read t v) is = refl
event_is lines w (item.Write t v) is = refl
event_is lines w (item.Acquire t r) is = refl
event_is lines w (item.Release t r) is = refl
event_is lines w (item.Fork t u) is = refl
event_is lines w (item.Join t u) is = refl
event_is lines w (item.Enter t m) is = absurd (true≢false (sym is))
event_is lines w (item.Exit t m) is = absurd (true≢false (sym is))

pub enter_is : (lines : Specification) (w : TraceState) (t : ℕ) (m : MethodKey) → state_after_item lines w (item.Enter t m) ≡ with_thread_state t (with_entry m (w.threads t)) w
unfolding state_after_item
enter_is lines w t m = refl

pub exit_is : (lines : Specification) (w : TraceState) (t : ℕ) (m : MethodKey) → state_after_item lines w (item.Exit t m) ≡ with_thread_state t (with_exit lines (w.threads t)) w
unfolding state_after_item
exit_is lines w t m = refl

-- ---- Facts about each trace state

-- A transaction belongs to one thread, and each has an event.
pub record IsFair (lines : Specification) (w : TraceState) : Type 0 where
  pub owned : IsOwned lines w
  pub short : w.transactions ≤ length w.events

begun_short : (o : Option ℕ) (begun events : ℕ) → begun ≤ events → transactions_after o begun ≤ events + 1
begun_short (Some n) begun events less = omega arith
begun_short None begun events less = omega arith

-- An item adds at most one event, and a transaction only with an event.
step_short : (lines : Specification) (w : TraceState) (i : Item) → w.transactions ≤ length w.events → (state_after_item lines w i).transactions ≤ length (state_after_item lines w i).events
step_short lines w i less = by (cases_Bool (is_event i)) i refl
  where
    of_event : is_event i ≡ true → (state_after_item lines w i).transactions ≤ length (state_after_item lines w i).events
    of_event is =
        let thread = w.threads (thread_of i) in
        let n = next_transaction thread.transaction w.transactions in
        let e : Event = record { number = length w.events + 1; transaction = n; item = i } in
        let more = begun_short thread.transaction w.transactions (length w.events) less in
        let long = length_push w.events e in
        subst (λ (v : TraceState). v.transactions ≤ length v.events) (sym (event_is lines w i is))
        (subst (λ m. transactions_after thread.transaction w.transactions ≤ m) (sym long) more)

    by : (is_event i ≡ true) ⊎ (is_event i ≡ false) → (j : Item) → j ≡ i → (state_after_item lines w i).transactions ≤ length (state_after_item lines w i).events
    by (inl is) j same = of_event is
    by (inr none) (item.Enter t m) same = subst (λ k. (state_after_item lines w k).transactions ≤ length (state_after_item lines w k).events) same (subst (λ (v : TraceState). v.transactions ≤ length v.events) (sym (enter_is lines w t m)) less)
    by (inr none) (item.Exit t m) same = subst (λ k. (state_after_item lines w k).transactions ≤ length (state_after_item lines w k).events) same (subst (λ (v : TraceState). v.transactions ≤ length v.events) (sym (exit_is lines w t m)) less)
    by (inr none) (item.Read t v) same = absurd (true≢false (ap is_event same ∙ none))
    by (inr none) (item.Write t v) same = absurd (true≢false (ap is_event same ∙ none))
    by (inr none) (item.Acquire t v) same = absurd (true≢false (ap is_event same ∙ none))
    by (inr none) (item.Release t v) same = absurd (true≢false (ap is_event same ∙ none))
    by (inr none) (item.Fork t v) same = absurd (true≢false (ap is_event same ∙ none))
    by (inr none) (item.Join t v) same = absurd (true≢false (ap is_event same ∙ none))

opening_owned : (lines : Specification) → IsOwned lines opening_trace_state
unfolding trace_state_of
opening_owned lines = record {
  counted = trace_state_counted lines [];
  one = λ t u n is too. absurd (none-some n is);
  atomic = λ t n is. absurd (none-some n is);
}

all_fair : (lines : Specification) (w : TraceState) (items : List Item) → IsFair lines w → IsFair lines (fold (state_after_item lines) w items)
all_fair lines w [] fair = fair
all_fair lines w (i ∷ items) fair = all_fair lines (state_after_item lines w i) items (record { owned = owned_step lines w fair.owned i; short = step_short lines w i fair.short })

pub trace_state_fair : (lines : Specification) (items : List Item) → IsFair lines (trace_state_of lines items)
unfolding trace_state_of
trace_state_fair lines items = all_fair lines opening_trace_state items (record { owned = opening_owned lines; short = omega arith })

-- ---- Which transactions are open

module _ (w : TraceState) (t : ℕ) (thread : ThreadState) where
  abbrev new : TraceState
  new = with_thread_state t thread w

  -- After a thread's state changes, its transaction and those of all other threads are open.
  abbrev pub IsOpenBy : ℕ → Type 0
  IsOpenBy a = (thread.transaction ≡ Some a) ⊎ ((u : ℕ) × (u ≡ t → ⊥) × ((w.threads u).transaction ≡ Some a))

  pub open_by : (a : ℕ) → IsOpen (with_thread_state t thread w) a → IsOpenBy a
  open_by a is = elim (cases_eq is.0 t) [
    | inl same ↦ inl (subst (λ b. (if b then thread else w.threads is.0).transaction ≡ Some a) (eq-eqb is.0 t same) is.1)
    | inr other ↦ inr (is.0, other, subst (λ b. (if b then thread else w.threads is.0).transaction ≡ Some a) (ne_eqb is.0 t other) is.1)
  ]

  pub by_open : (a : ℕ) → IsOpenBy a → IsOpen (with_thread_state t thread w) a
  by_open a (inl is) = (t, subst (λ b. (if b then thread else w.threads t).transaction ≡ Some a) (sym (eq-eqb t t refl)) is)
  by_open a (inr other) = (other.0, subst (λ b. (if b then thread else w.threads other.0).transaction ≡ Some a) (sym (ne_eqb other.0 t other.1)) other.2)

pub open_is : (w : TraceState) (t a : ℕ) → IsOpen w a → IsOpenBy w t (w.threads t) a
open_is w t a is = elim (cases_eq is.0 t) [
  | inl same ↦ inl (subst (λ u. (w.threads u).transaction ≡ Some a) same is.1)
  | inr other ↦ inr (is.0, other, is.1)
]

pub is_open : (w : TraceState) (t a : ℕ) → IsOpenBy w t (w.threads t) a → IsOpen w a
is_open w t a (inl is) = (t, is)
is_open w t a (inr other) = (other.0, other.2)
