-- The events of a trace are numbered from 1 in order, and so are their transactions.
use Rattle.std.proofs.Common.{◌≡◌, ℕ, suc, ◌+◌, ◌<◌, ◌≤◌, Bool, true, false, ◌==◌, if◌then◌else◌, List, [], ◌∷◌, ◌++◌, length, fold, Option, Some, None, inl, inr, ⊎_elim, refl, sym, ap, ◌∙◌, subst, arith}
use Rattle.std.proofs.lemmas.Option.{none-some, same_Some}
use Rattle.jvms_machine.specs.declared.trace.Item.{Item}
use Rattle.jvms_machine.specs.declared.trace.Item.TheVariants as item
use Rattle.jvms_machine.specs.Events.{thread_of}
use Rattle.velodrome.specs.Cycles.{IsBefore, IsIn}
use Rattle.velodrome.specs.Rearrangements.{KeepsConflicts}
use Rattle.velodrome.specs.Specification.{Specification}
use Rattle.velodrome.specs.Transactions.{ThreadState, Event, TraceState, transactions_after, with_event, has_atomic, next_transaction, opening_trace_state, trace_state_of, state_after_item, with_thread_state}
use Rattle.serial_order.proofs.Members.{all_of_members, in_either}

-- The numbers are consecutive, from n.
abbrev pub AreNumberedFrom : ℕ → List Event → Type 0
AreNumberedFrom n [] = Unit {0}
AreNumberedFrom n (e ∷ events) = (e.number ≡ n) × AreNumberedFrom (suc n) events

pub numbered_within : (n : ℕ) (events : List Event) (e : Event) → AreNumberedFrom n events → IsIn e events → (n ≤ e.number) × (e.number < n + length events)
numbered_within n [] e are in_events = absurd in_events
numbered_within n (f ∷ events) e are (inl same) = let is = ap (λ (g : Event). g.number) same ∙ are.0 in (omega arith, omega arith)
numbered_within n (f ∷ events) e are (inr more) = let rest = numbered_within (suc n) events e are.1 more in (omega arith, omega arith)

pub one_of_number : (n : ℕ) (events : List Event) (e f : Event) → AreNumberedFrom n events → IsIn e events → IsIn f events → e.number ≡ f.number → e ≡ f
one_of_number n [] e f are in_e in_f same = absurd in_e
one_of_number n (g ∷ events) e f are (inl is) (inl too) same = is ∙ sym too
one_of_number n (g ∷ events) e f are (inl is) (inr more) same = let rest = numbered_within (suc n) events f are.1 more in let own = ap (λ (h : Event). h.number) is ∙ are.0 in absurd (omega arith)
one_of_number n (g ∷ events) e f are (inr more) (inl too) same = let rest = numbered_within (suc n) events e are.1 more in let own = ap (λ (h : Event). h.number) too ∙ are.0 in absurd (omega arith)
one_of_number n (g ∷ events) e f are (inr more) (inr also) same = one_of_number (suc n) events e f are.1 more also same

pub numbered_keep : (n : ℕ) (events : List Event) → AreNumberedFrom n events → KeepsConflicts events
numbered_keep n [] are = tt
numbered_keep n (e ∷ events) are =
    (all_of_members (λ f. IsBefore f e → ⊥) events (λ f in_events before. let rest = numbered_within (suc n) events f are.1 in_events in let own = are.0 in let less = before.0 in absurd (omega arith)), numbered_keep (suc n) events are.1)

numbered_append : (n : ℕ) (events : List Event) (e : Event) → AreNumberedFrom n events → e.number ≡ n + length events → AreNumberedFrom n (events ++ e ∷ [])
numbered_append n [] e are is = (omega arith, tt)
numbered_append n (f ∷ events) e are is = (are.0, numbered_append (suc n) events e are.1 (omega arith))

-- Transaction t has begun, if `begun` transactions have.
abbrev pub IsBegun : ℕ → ℕ → Type 0
IsBegun begun t = (0 < t) × (t ≤ begun)

pub record IsCounted (w : TraceState) : Type 0 where
  pub numbered : AreNumberedFrom 1 w.events
  pub begun : (e : Event) → IsIn e w.events → IsBegun w.transactions e.transaction
  pub current : (t n : ℕ) → (w.threads t).transaction ≡ Some n → IsBegun w.transactions n

opening_counted : IsCounted opening_trace_state
opening_counted = record { numbered = tt; begun = λ e in_none. absurd in_none; current = λ t n is. absurd (none-some n is) }

-- A new state of a thread keeps the counts, if its transaction has begun.
with_counted : (t : ℕ) (thread : ThreadState) (w : TraceState) → ((n : ℕ) → thread.transaction ≡ Some n → IsBegun w.transactions n) → IsCounted w → IsCounted (with_thread_state t thread w)
with_counted t thread w within are = record { numbered = are.numbered; begun = are.begun; current = λ u n is. of (u == t) u n is }
  where
    of : (b : Bool) (u n : ℕ) → (if b then thread else w.threads u).transaction ≡ Some n → IsBegun w.transactions n
    of true u n is = within n is
    of false u n is = are.current u n is

pub within_next : (o : Option ℕ) (begun : ℕ) → ((n : ℕ) → o ≡ Some n → IsBegun begun n) → IsBegun (transactions_after o begun) (next_transaction o begun)
within_next (Some n) begun current = current n refl
within_next None begun current = (omega arith, omega arith)

pub begun_grows : (o : Option ℕ) (begun : ℕ) → begun ≤ transactions_after o begun
begun_grows (Some n) begun = omega arith
begun_grows None begun = omega arith

still_begun : (a b n : ℕ) → a ≤ b → IsBegun a n → IsBegun b n
still_begun a b n less is = let low = is.0 in let high = is.1 in (omega arith, omega arith)

pub happened_counted : (lines : Specification) (i : Item) (w : TraceState) → IsCounted w → IsCounted (with_event lines i (w.threads (thread_of i)) (next_transaction (w.threads (thread_of i)).transaction w.transactions) w)
happened_counted lines i w are =
    with_counted (thread_of i) _ _ (λ n is. goes_on (has_atomic lines (w.threads (thread_of i)).methods) n is)
    (record {
      numbered = numbered_append 1 w.events _ are.numbered (omega arith);
      begun = λ e in_events. ⊎_elim (λ old. still_begun w.transactions _ e.transaction (begun_grows o w.transactions) (are.begun e old)) (λ new. ⊎_elim (λ same. subst (λ (f : Event). IsBegun (transactions_after o w.transactions) f.transaction) (sym same) fresh) (λ none. absurd none) new) (in_either e w.events _ in_events);
      current = λ t n is. still_begun w.transactions _ n (begun_grows o w.transactions) (are.current t n is);
    })
  where
    o : Option ℕ
    o = (w.threads (thread_of i)).transaction

    fresh : IsBegun (transactions_after (w.threads (thread_of i)).transaction w.transactions) (next_transaction (w.threads (thread_of i)).transaction w.transactions)
    fresh = within_next (w.threads (thread_of i)).transaction w.transactions (are.current (thread_of i))

    goes_on : (b : Bool) (n : ℕ) → (if b then Some (next_transaction (w.threads (thread_of i)).transaction w.transactions) else None) ≡ Some n → IsBegun (transactions_after (w.threads (thread_of i)).transaction w.transactions) n
    goes_on true n is = subst (IsBegun (transactions_after (w.threads (thread_of i)).transaction w.transactions)) (same_Some _ n is) fresh
    goes_on false n is = absurd (none-some n is)

pub step_counted : (lines : Specification) (w : TraceState) (i : Item) → IsCounted w → IsCounted (state_after_item lines w i)
unfolding state_after_item
step_counted lines w (item.Enter t m) are = with_counted t _ w (λ n is. are.current t n is) are
step_counted lines w (item.Exit t m) are = with_counted t _ w (λ n is. left (has_atomic lines _) n is) are
  where
    left : (b : Bool) (n : ℕ) → (if b then (w.threads t).transaction else None) ≡ Some n → IsBegun w.transactions n
    left true n is = are.current t n is
    left false n is = absurd (none-some n is)
step_counted lines w (item.Read t v) are = happened_counted lines (item.Read t v) w are
step_counted lines w (item.Write t v) are = happened_counted lines (item.Write t v) w are
step_counted lines w (item.Acquire t r) are = happened_counted lines (item.Acquire t r) w are
step_counted lines w (item.Release t r) are = happened_counted lines (item.Release t r) w are
step_counted lines w (item.Fork t u) are = happened_counted lines (item.Fork t u) w are
step_counted lines w (item.Join t u) are = happened_counted lines (item.Join t u) w are

from_counted : (lines : Specification) (w : TraceState) (items : List Item) → IsCounted w → IsCounted (fold (state_after_item lines) w items)
from_counted lines w [] are = are
from_counted lines w (i ∷ items) are = from_counted lines (state_after_item lines w i) items (step_counted lines w i are)

-- A trace numbers its events from 1, and its transactions from 1 to their count.
pub trace_state_counted : (lines : Specification) (items : List Item) → IsCounted (trace_state_of lines items)
unfolding trace_state_of
trace_state_counted lines items = from_counted lines opening_trace_state items opening_counted
