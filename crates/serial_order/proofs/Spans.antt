-- Two events are of one transaction if their thread stays in atomic methods from the one to the other.
use Rattle.std.proofs.Common.{◌≡◌, ◌↔◌, ℕ, ◌+◌, ◌≤◌, Bool, true, false, ◌==◌, if◌then◌else◌, List, [], ◌∷◌, ◌++◌, length, drop, fold, Option, Some, None, ◌⊎◌, inl, inr, ⊎_elim, refl, sym, ap, ◌∙◌, subst, true≢false, arith}
use Rattle.std.proofs.lemmas.Option.{none-some, same_Some}
use Rattle.std.proofs.lemmas.Bool.{cases_Bool, cases_eq, eq-eqb, eqb-true, or_right}
use Rattle.jvms_program.specs.declared.key.MethodKey.{MethodKey}
use Rattle.jvms_machine.specs.declared.trace.Item.{Item}
use Rattle.jvms_machine.specs.declared.trace.Item.TheVariants as item
use Rattle.jvms_machine.specs.Events.{thread_of}
use Rattle.velodrome.specs.Cycles.{IsIn}
use Rattle.velodrome.specs.Specification.{Specification, is_atomic}
use Rattle.velodrome.specs.Transactions.{ThreadState, Event, TraceState, with_entry, with_exit, with_event, has_atomic, is_event, next_transaction, opening_trace_state, trace_state_of, state_after_item, with_thread_state}
use Rattle.serial_order.specs.Spans.{StaysAtomic, open_methods, opened_by}
use Rattle.serial_order.proofs.Members.{in_back, in_front}
use Rattle.serial_order.proofs.TraceStates.{IsCounted, begun_grows, happened_counted, one_of_number, step_counted, trace_state_counted, within_next}

-- ---- Facts about each trace state

pub record IsOwned (lines : Specification) (w : TraceState) : Type 0 where
  pub counted : IsCounted w
  pub one : (t u n : ℕ) → (w.threads t).transaction ≡ Some n → (w.threads u).transaction ≡ Some n → t ≡ u
  pub atomic : (t n : ℕ) → (w.threads t).transaction ≡ Some n → has_atomic lines (w.threads t).methods ≡ true

-- No thread is in transaction n, and none will be.
pub record IsOver (n : ℕ) (w : TraceState) : Type 0 where
  pub begun : n ≤ w.transactions
  pub none : (t : ℕ) → (w.threads t).transaction ≡ Some n → ⊥

-- The next transaction of a thread is its own or a new one.
next_is : (o : Option ℕ) (begun n : ℕ) → next_transaction o begun ≡ n → (o ≡ Some n) ⊎ ((o ≡ None) × (n ≡ begun + 1))
next_is (Some m) begun n is = inl (ap (λ (k : ℕ). Some k) is)
next_is None begun n is = inr (refl, sym is)

chosen : {X : Type 0} (P : X → Type 0) (b : Bool) (x y : X) → (b ≡ true → P x) → (b ≡ false → P y) → P (if b then x else y)
chosen P true x y first second = first refl
chosen P false x y first second = second refl

kept : (b : Bool) (h n : ℕ) → (if b then Some h else None) ≡ Some n → (n ≡ h) × (b ≡ true)
kept true h n is = (sym (same_Some h n is), refl)
kept false h n is = absurd (none-some n is)

apart_of : (t u : ℕ) → (t == u) ≡ false → t ≡ u → ⊥
apart_of t u other same = true≢false (sym (eq-eqb t u same) ∙ other)

-- The thread stays in transaction n with an atomic method open, or it has none open and the transaction has ended.
abbrev pub Stays : Specification → ℕ → ℕ → TraceState → Type 0
Stays lines t n w = (((w.threads t).transaction ≡ Some n) × (has_atomic lines (w.threads t).methods ≡ true)) ⊎ (IsOver n w × (has_atomic lines (w.threads t).methods ≡ false))

-- A thread state with changed methods, or with its transaction ended.
module _ (lines : Specification) (w : TraceState) (owned : IsOwned lines w) (t : ℕ) (thread : ThreadState)
    (keeps : (n : ℕ) → thread.transaction ≡ Some n → (w.threads t).transaction ≡ Some n) (atomic : (n : ℕ) → thread.transaction ≡ Some n → has_atomic lines thread.methods ≡ true) where
  was : (u n : ℕ) → ((with_thread_state t thread w).threads u).transaction ≡ Some n → (w.threads u).transaction ≡ Some n
  was u n = chosen (λ (c : ThreadState). c.transaction ≡ Some n → (w.threads u).transaction ≡ Some n) (u == t) thread (w.threads u) (λ same is. subst (λ v. (w.threads v).transaction ≡ Some n) (sym (eqb-true u t same)) (keeps n is)) (λ other is. is)

  pub marked_owned : IsCounted (with_thread_state t thread w) → IsOwned lines (with_thread_state t thread w)
  marked_owned counted = record {
    counted = counted;
    one = λ u v n is too. owned.one u v n (was u n is) (was v n too);
    atomic = λ u n. chosen (λ (c : ThreadState). c.transaction ≡ Some n → has_atomic lines c.methods ≡ true) (u == t) thread (w.threads u) (λ same is. atomic n is) (λ other is. owned.atomic u n is);
  }

  pub marked_over : (n : ℕ) → IsOver n w → IsOver n (with_thread_state t thread w)
  marked_over n over = record { begun = over.begun; none = λ u is. over.none u (was u n is) }

  -- Another thread stays.
  pub marked_other : (u n : ℕ) → (u ≡ t → ⊥) → (w.threads u).transaction ≡ Some n → Stays lines u n (with_thread_state t thread w)
  marked_other u n other is = inl (chosen (λ (c : ThreadState). (c.transaction ≡ Some n) × (has_atomic lines c.methods ≡ true)) (u == t) thread (w.threads u) (λ same. absurd (other (eqb-true u t same))) (λ apart. (is, owned.atomic u n is)))

  -- The thread itself stays if its new state does, and else the transaction has ended.
  pub marked_own : (n : ℕ) → n ≤ w.transactions → (w.threads t).transaction ≡ Some n → (thread.transaction ≡ Some n) ⊎ ((thread.transaction ≡ None) × (has_atomic lines thread.methods ≡ false)) → Stays lines t n (with_thread_state t thread w)
  marked_own n begun is (inl stays) = inl (chosen (λ (c : ThreadState). (c.transaction ≡ Some n) × (has_atomic lines c.methods ≡ true)) (t == t) thread (w.threads t) (λ same. (stays, atomic n stays)) (λ apart. absurd (apart_of t t apart refl)))
  marked_own n begun is (inr left) = inr (record { begun = begun; none = none }, chosen (λ (c : ThreadState). has_atomic lines c.methods ≡ false) (t == t) thread (w.threads t) (λ same. left.1) (λ apart. absurd (apart_of t t apart refl)))
    where
      none : (u : ℕ) → ((with_thread_state t thread w).threads u).transaction ≡ Some n → ⊥
      none u = chosen (λ (c : ThreadState). c.transaction ≡ Some n → ⊥) (u == t) thread (w.threads u) (λ same too. none-some n (sym left.0 ∙ too)) (λ apart too. apart_of u t apart (owned.one u t n too is))

-- One event of a thread.
module _ (lines : Specification) (w : TraceState) (owned : IsOwned lines w) (i : Item) where
  abbrev own : Option ℕ
  own = (w.threads (thread_of i)).transaction

  abbrev here : ℕ
  here = next_transaction own w.transactions

  abbrev goes_on : Bool
  goes_on = has_atomic lines (w.threads (thread_of i)).methods

  abbrev then_is : TraceState
  then_is = with_event lines i (w.threads (thread_of i)) here w

  -- After the event, its thread is in its transaction, and every other thread is where it was.
  after : (u n : ℕ) → (then_is.threads u).transaction ≡ Some n → ((u ≡ thread_of i) × (n ≡ here) × (goes_on ≡ true)) ⊎ ((u ≡ thread_of i → ⊥) × ((w.threads u).transaction ≡ Some n))
  after u n = chosen (λ (c : ThreadState). c.transaction ≡ Some n → ((u ≡ thread_of i) × (n ≡ here) × (goes_on ≡ true)) ⊎ ((u ≡ thread_of i → ⊥) × ((w.threads u).transaction ≡ Some n))) (u == thread_of i) _ (w.threads u)
      (λ same is. let found = kept goes_on here n is in inl (eqb-true u (thread_of i) same, found.0, found.1))
      (λ other is. inr (apart_of u (thread_of i) other, is))

  pub methods_stay : (u : ℕ) → (then_is.threads u).methods ≡ (w.threads u).methods
  methods_stay u = chosen (λ (c : ThreadState). c.methods ≡ (w.threads u).methods) (u == thread_of i) _ (w.threads u) (λ same. ap (λ (v : ℕ). (w.threads v).methods) (sym (eqb-true u (thread_of i) same))) (λ other. refl)

  -- No other thread is in the transaction of the event.
  alone : (u : ℕ) → (u ≡ thread_of i → ⊥) → (w.threads u).transaction ≡ Some here → ⊥
  alone u other is = ⊎_elim
      (λ mine. other (owned.one u (thread_of i) here is mine))
      (λ fresh. let within = owned.counted.current u here is in let high = within.1 in let new = fresh.1 in absurd (omega arith))
      (next_is own w.transactions here refl)

  pub event_owned : IsOwned lines then_is
  event_owned = record {
    counted = happened_counted lines i w owned.counted;
    one = λ t u n is too. same t u n (after t n is) (after u n too);
    atomic = λ t n is. subst (λ methods. has_atomic lines methods ≡ true) (sym (methods_stay t)) (holds t n (after t n is));
  }
    where
      same : (t u n : ℕ) → ((t ≡ thread_of i) × (n ≡ here) × (goes_on ≡ true)) ⊎ ((t ≡ thread_of i → ⊥) × ((w.threads t).transaction ≡ Some n)) → ((u ≡ thread_of i) × (n ≡ here) × (goes_on ≡ true)) ⊎ ((u ≡ thread_of i → ⊥) × ((w.threads u).transaction ≡ Some n)) → t ≡ u
      same t u n (inl is) (inl too) = is.0 ∙ sym too.0
      same t u n (inl is) (inr too) = absurd (alone u too.0 (too.1 ∙ ap (λ (k : ℕ). Some k) is.1))
      same t u n (inr is) (inl too) = absurd (alone t is.0 (is.1 ∙ ap (λ (k : ℕ). Some k) too.1))
      same t u n (inr is) (inr too) = owned.one t u n is.1 too.1

      holds : (t n : ℕ) → ((t ≡ thread_of i) × (n ≡ here) × (goes_on ≡ true)) ⊎ ((t ≡ thread_of i → ⊥) × ((w.threads t).transaction ≡ Some n)) → has_atomic lines (w.threads t).methods ≡ true
      holds t n (inl is) = subst (λ u. has_atomic lines (w.threads u).methods ≡ true) (sym is.0) is.2
      holds t n (inr is) = owned.atomic t n is.1

  -- The event isn't of a transaction that has ended.
  pub not_over : (n : ℕ) → IsOver n w → n ≡ here → ⊥
  not_over n over same = ⊎_elim
      (λ mine. over.none (thread_of i) (mine ∙ ap (λ (k : ℕ). Some k) (sym same)))
      (λ fresh. let high = over.begun in let new = fresh.1 in absurd (omega arith))
      (next_is own w.transactions here refl)

  pub event_over : (n : ℕ) → IsOver n w → IsOver n then_is
  event_over n over = record { begun = more; none = λ u is. none u (after u n is) }
    where
      more : n ≤ then_is.transactions
      more = let high = over.begun in let grows = begun_grows own w.transactions in omega arith

      none : (u : ℕ) → ((u ≡ thread_of i) × (n ≡ here) × (goes_on ≡ true)) ⊎ ((u ≡ thread_of i → ⊥) × ((w.threads u).transaction ≡ Some n)) → ⊥
      none u (inl is) = not_over n over is.1
      none u (inr is) = over.none u is.1

  -- A thread that is in a transaction stays in it.
  pub event_stays : (t n : ℕ) → (w.threads t).transaction ≡ Some n → Stays lines t n then_is
  event_stays t n is = inl (chosen (λ (c : ThreadState). c.transaction ≡ Some n) (t == thread_of i) _ (w.threads t) mine (λ other. is), subst (λ methods. has_atomic lines methods ≡ true) (sym (methods_stay t)) (owned.atomic t n is))
    where
      mine : (t == thread_of i) ≡ true → (if goes_on then Some here else None) ≡ Some n
      mine same =
          let held : own ≡ Some n = subst (λ u. (w.threads u).transaction ≡ Some n) (eqb-true t (thread_of i) same) is in
          let holds : goes_on ≡ true = owned.atomic (thread_of i) n held in
          let number : here ≡ n = ap (λ (o : Option ℕ). next_transaction o w.transactions) held in
          rw holds (ap (λ (k : ℕ). Some k) number)

  -- After the event its thread is in its transaction, or that has ended.
  pub event_begins : Stays lines (thread_of i) here then_is
  event_begins = ⊎_elim (λ holds. inl (chosen (λ (c : ThreadState). c.transaction ≡ Some here) (thread_of i == thread_of i) _ (w.threads (thread_of i)) (λ same. rw holds refl) (λ other. absurd (apart_of (thread_of i) (thread_of i) other refl)), subst (λ methods. has_atomic lines methods ≡ true) (sym (methods_stay (thread_of i))) holds)) (λ shut. inr (record { begun = (within_next own w.transactions (owned.counted.current (thread_of i))).1; none = λ u is. none shut u (after u here is) }, subst (λ methods. has_atomic lines methods ≡ false) (sym (methods_stay (thread_of i))) shut)) (cases_Bool goes_on)
    where
      none : goes_on ≡ false → (u : ℕ) → ((u ≡ thread_of i) × (here ≡ here) × (goes_on ≡ true)) ⊎ ((u ≡ thread_of i → ⊥) × ((w.threads u).transaction ≡ Some here)) → ⊥
      none shut u (inl is) = true≢false (sym is.2 ∙ shut)
      none shut u (inr is) = alone u is.0 is.1

  -- If a thread is in a transaction, its event is of that transaction.
  pub of_own : (t n : ℕ) → (w.threads t).transaction ≡ Some n → t ≡ thread_of i → n ≡ here
  of_own t n is same = sym (ap (λ (o : Option ℕ). next_transaction o w.transactions) (subst (λ u. (w.threads u).transaction ≡ Some n) same is))

  pub of_thread : (t n : ℕ) → (w.threads t).transaction ≡ Some n → n ≡ here → t ≡ thread_of i
  of_thread t n is same = ⊎_elim (λ mine. mine) (λ other. absurd (alone t other (is ∙ ap (λ (k : ℕ). Some k) same))) (cases_eq t (thread_of i))

-- ---- One item after another

kept_own : (b : Bool) (o : Option ℕ) (n : ℕ) → (if b then o else None) ≡ Some n → (o ≡ Some n) × (b ≡ true)
kept_own true o n is = (is, refl)
kept_own false o n is = absurd (none-some n is)

event_is : (lines : Specification) (w : TraceState) (i : Item) → is_event i ≡ true → state_after_item lines w i ≡ with_event lines i (w.threads (thread_of i)) (next_transaction (w.threads (thread_of i)).transaction w.transactions) w
unfolding state_after_item
event_is lines w (item.Read t v) is = refl
event_is lines w (item.Write t v) is = refl
event_is lines w (item.Acquire t r) is = refl
event_is lines w (item.Release t r) is = refl
event_is lines w (item.Fork t u) is = refl
event_is lines w (item.Join t u) is = refl
event_is lines w (item.Enter t m) is = absurd (true≢false (sym is))
event_is lines w (item.Exit t m) is = absurd (true≢false (sym is))

-- An item is an event, or the entry or the exit of a method.
by_event : (P : Item → Type 0) → ((i : Item) → is_event i ≡ true → P i) → ((t : ℕ) (m : MethodKey) → P (item.Enter t m)) → ((t : ℕ) (m : MethodKey) → P (item.Exit t m)) → (i : Item) → P i
by_event P event enter exit (item.Read t v) = event (item.Read t v) refl
by_event P event enter exit (item.Write t v) = event (item.Write t v) refl
by_event P event enter exit (item.Acquire t r) = event (item.Acquire t r) refl
by_event P event enter exit (item.Release t r) = event (item.Release t r) refl
by_event P event enter exit (item.Fork t u) = event (item.Fork t u) refl
by_event P event enter exit (item.Join t u) = event (item.Join t u) refl
by_event P event enter exit (item.Enter t m) = enter t m
by_event P event enter exit (item.Exit t m) = exit t m

module _ (lines : Specification) (w : TraceState) (owned : IsOwned lines w) where
  entered_holds : (t : ℕ) (m : MethodKey) (n : ℕ) → (w.threads t).transaction ≡ Some n → has_atomic lines (m ∷ (w.threads t).methods) ≡ true
  entered_holds t m n is = or_right (is_atomic lines m) (has_atomic lines (w.threads t).methods) (owned.atomic t n is)

  pub owned_step : (i : Item) → IsOwned lines (state_after_item lines w i)
  unfolding state_after_item
  owned_step = by_event (λ i. IsOwned lines (state_after_item lines w i))
      (λ i is. subst (IsOwned lines) (sym (event_is lines w i is)) (event_owned lines w owned i))
      (λ t m. marked_owned lines w owned t (with_entry m (w.threads t)) (λ n is. is) (entered_holds t m) (step_counted lines w (item.Enter t m) owned.counted))
      (λ t m. marked_owned lines w owned t (with_exit lines (w.threads t)) (λ n is. (kept_own _ _ n is).0) (λ n is. (kept_own _ _ n is).1) (step_counted lines w (item.Exit t m) owned.counted))

  pub over_step : (n : ℕ) → IsOver n w → (i : Item) → IsOver n (state_after_item lines w i)
  unfolding state_after_item
  over_step n over = by_event (λ i. IsOver n (state_after_item lines w i))
      (λ i is. subst (IsOver n) (sym (event_is lines w i is)) (event_over lines w owned i n over))
      (λ t m. marked_over lines w owned t (with_entry m (w.threads t)) (λ k is. is) (entered_holds t m) n over)
      (λ t m. marked_over lines w owned t (with_exit lines (w.threads t)) (λ k is. (kept_own _ _ k is).0) (λ k is. (kept_own _ _ k is).1) n over)

  pub stays_step : (t n : ℕ) → (w.threads t).transaction ≡ Some n → (i : Item) → Stays lines t n (state_after_item lines w i)
  unfolding state_after_item
  stays_step t n is = by_event (λ i. Stays lines t n (state_after_item lines w i))
      (λ i event. subst (Stays lines t n) (sym (event_is lines w i event)) (event_stays lines w owned i t n is))
      (λ u m. ⊎_elim
      (λ same. subst (λ v. Stays lines v n (with_thread_state u (with_entry m (w.threads u)) w)) (sym same) (marked_own lines w owned u (with_entry m (w.threads u)) (λ k held. held) (entered_holds u m) n begun (moved u same) (inl (moved u same))))
      (λ other. marked_other lines w owned u (with_entry m (w.threads u)) (λ k held. held) (entered_holds u m) t n other is)
      (cases_eq t u))
      (λ u m. ⊎_elim
      (λ same. subst (λ v. Stays lines v n (with_thread_state u (with_exit lines (w.threads u)) w)) (sym same) (marked_own lines w owned u (with_exit lines (w.threads u)) (λ k held. (kept_own _ _ k held).0) (λ k held. (kept_own _ _ k held).1) n begun (moved u same) (left u (moved u same) (cases_Bool (has_atomic lines (drop 1 (w.threads u).methods))))))
      (λ other. marked_other lines w owned u (with_exit lines (w.threads u)) (λ k held. (kept_own _ _ k held).0) (λ k held. (kept_own _ _ k held).1) t n other is)
      (cases_eq t u))
    where
      begun : n ≤ w.transactions
      begun = (owned.counted.current t n is).1

      moved : (u : ℕ) → t ≡ u → (w.threads u).transaction ≡ Some n
      moved u same = subst (λ v. (w.threads v).transaction ≡ Some n) same is

      left : (u : ℕ) → (w.threads u).transaction ≡ Some n → (has_atomic lines (drop 1 (w.threads u).methods) ≡ true) ⊎ (has_atomic lines (drop 1 (w.threads u).methods) ≡ false)
          → ((with_exit lines (w.threads u)).transaction ≡ Some n) ⊎ (((with_exit lines (w.threads u)).transaction ≡ None) × (has_atomic lines (with_exit lines (w.threads u)).methods ≡ false))
      left u held (inl more) = inl (rw more held)
      left u held (inr shut) = inr (rw shut refl, shut)

  pub methods_step : (t : ℕ) (i : Item) → ((state_after_item lines w i).threads t).methods ≡ opened_by t (w.threads t).methods i
  unfolding state_after_item
  methods_step t (item.Enter u m) = chosen (λ (c : ThreadState). c.methods ≡ opened_by t (w.threads t).methods (item.Enter u m)) (t == u) (with_entry m (w.threads u)) (w.threads t)
      (λ same. rw same (ap (λ (v : ℕ). m ∷ (w.threads v).methods) (sym (eqb-true t u same))))
      (λ other. rw other refl)
  methods_step t (item.Exit u m) = chosen (λ (c : ThreadState). c.methods ≡ opened_by t (w.threads t).methods (item.Exit u m)) (t == u) (with_exit lines (w.threads u)) (w.threads t)
      (λ same. rw same (ap (λ (v : ℕ). drop 1 (w.threads v).methods) (sym (eqb-true t u same))))
      (λ other. rw other refl)
  methods_step t (item.Read u v) = methods_stay lines w owned (item.Read u v) t
  methods_step t (item.Write u v) = methods_stay lines w owned (item.Write u v) t
  methods_step t (item.Acquire u r) = methods_stay lines w owned (item.Acquire u r) t
  methods_step t (item.Release u r) = methods_stay lines w owned (item.Release u r) t
  methods_step t (item.Fork u v) = methods_stay lines w owned (item.Fork u v) t
  methods_step t (item.Join u v) = methods_stay lines w owned (item.Join u v) t

-- ---- Many items

owned_all : (lines : Specification) (w : TraceState) (items : List Item) → IsOwned lines w → IsOwned lines (fold (state_after_item lines) w items)
owned_all lines w [] owned = owned
owned_all lines w (i ∷ items) owned = owned_all lines (state_after_item lines w i) items (owned_step lines w owned i)

over_all : (lines : Specification) (w : TraceState) (items : List Item) → IsOwned lines w → (n : ℕ) → IsOver n w → IsOver n (fold (state_after_item lines) w items)
over_all lines w [] owned n over = over
over_all lines w (i ∷ items) owned n over = over_all lines (state_after_item lines w i) items (owned_step lines w owned i) n (over_step lines w owned n over i)

methods_all : (lines : Specification) (w : TraceState) (items : List Item) → IsOwned lines w → (t : ℕ) → ((fold (state_after_item lines) w items).threads t).methods ≡ fold (opened_by t) (w.threads t).methods items
methods_all lines w [] owned t = refl
methods_all lines w (i ∷ items) owned t = methods_all lines (state_after_item lines w i) items (owned_step lines w owned i) t ∙ ap (λ (methods : List MethodKey). fold (opened_by t) methods items) (methods_step lines w owned t i)

fold_append : {A X : Type 0} (f : A → X → A) (a : A) (xs ys : List X) → fold f a (xs ++ ys) ≡ fold f (fold f a xs) ys
fold_append f a [] ys = refl
fold_append f a (x ∷ xs) ys = fold_append f (f a x) xs ys

-- Through the items a thread stays in a transaction, or it has no atomic method open after some of them.
abbrev pub Through : Specification → ℕ → ℕ → TraceState → List Item → Type 0
Through lines t n w between =
    ((((fold (state_after_item lines) w between).threads t).transaction ≡ Some n) × ((some rest : List Item) → between ≡ some ++ rest → has_atomic lines ((fold (state_after_item lines) w some).threads t).methods ≡ true))
    ⊎ (IsOver n (fold (state_after_item lines) w between) × (some : List Item) × (rest : List Item) × (between ≡ some ++ rest) × (has_atomic lines ((fold (state_after_item lines) w some).threads t).methods ≡ false))

pub through : (lines : Specification) (w : TraceState) (between : List Item) → IsOwned lines w → (t n : ℕ) → Stays lines t n w → Through lines t n w between
through lines w [] owned t n (inl stays) = inl (stays.0, only)
  where
    only : (some rest : List Item) → [] ≡ some ++ rest → has_atomic lines ((fold (state_after_item lines) w some).threads t).methods ≡ true
    only [] rest is = stays.1
    only (i ∷ some) rest is = cc
through lines w [] owned t n (inr over) = inr (over.0, [], [], refl, over.1)
through lines w (i ∷ between) owned t n (inl stays) = more (through lines (state_after_item lines w i) between (owned_step lines w owned i) t n (stays_step lines w owned t n stays.0 i))
  where
    more : Through lines t n (state_after_item lines w i) between → Through lines t n w (i ∷ between)
    more (inl all) = inl (all.0, each)
      where
        each : (some rest : List Item) → i ∷ between ≡ some ++ rest → has_atomic lines ((fold (state_after_item lines) w some).threads t).methods ≡ true
        each [] rest is = stays.1
        each (j ∷ some) rest is =
            let same : i ≡ j = cc in
            let behind : between ≡ some ++ rest = cc in
            subst (λ k. has_atomic lines ((fold (state_after_item lines) (state_after_item lines w k) some).threads t).methods ≡ true) same (all.1 some rest behind)
    more (inr over) = inr (over.0, i ∷ over.1, over.2, ap (λ (items : List Item). i ∷ items) over.3, over.4)
through lines w (i ∷ between) owned t n (inr over) = inr (over_all lines (state_after_item lines w i) between (owned_step lines w owned i) n (over_step lines w owned n over.0 i), [], i ∷ between, refl, over.1)

-- ---- Two events

kept_events : (lines : Specification) (w : TraceState) (i : Item) (e : Event) → IsIn e w.events → IsIn e (state_after_item lines w i).events
unfolding state_after_item
kept_events lines w i e in_events = by_event (λ j. IsIn e (state_after_item lines w j).events)
    (λ j is. subst (λ v. IsIn e v.events) (sym (event_is lines w j is)) (in_front e w.events _ in_events))
    (λ t m. in_events)
    (λ t m. in_events)
    i

kept_all : (lines : Specification) (w : TraceState) (items : List Item) (e : Event) → IsIn e w.events → IsIn e (fold (state_after_item lines) w items).events
kept_all lines w [] e in_events = in_events
kept_all lines w (i ∷ items) e in_events = kept_all lines (state_after_item lines w i) items e (kept_events lines w i e in_events)

-- Returns the transaction of the next item if it is an event.
abbrev coming : TraceState → Item → ℕ
coming w i = next_transaction (w.threads (thread_of i)).transaction w.transactions

abbrev made : TraceState → Item → Event
made w i = record { number = length w.events + 1; transaction = coming w i; item = i }

made_in : (lines : Specification) (w : TraceState) (i : Item) → is_event i ≡ true → IsIn (made w i) (state_after_item lines w i).events
made_in lines w i is = subst (λ v. IsIn (made w i) v.events) (sym (event_is lines w i is)) (in_back (made w i) w.events (made w i ∷ []) (inl refl))

trace_state_owned : (lines : Specification) (items : List Item) → IsOwned lines (trace_state_of lines items)
unfolding trace_state_of
trace_state_owned lines items = owned_all lines opening_trace_state items (record { counted = trace_state_counted lines []; one = λ t u n is too. absurd (none-some n is); atomic = λ t n is. absurd (none-some n is) })

trace_state_append : (lines : Specification) (xs ys : List Item) → trace_state_of lines (xs ++ ys) ≡ fold (state_after_item lines) (trace_state_of lines xs) ys
unfolding trace_state_of
trace_state_append lines xs ys = fold_append (state_after_item lines) opening_trace_state xs ys

trace_state_methods : (lines : Specification) (items : List Item) (t : ℕ) → ((trace_state_of lines items).threads t).methods ≡ open_methods t items
unfolding trace_state_of
trace_state_methods lines items t = methods_all lines opening_trace_state items (trace_state_owned lines []) t

module _ (lines : Specification) (before between after : List Item) (i j : Item) (i_is : is_event i ≡ true) (j_is : is_event j ≡ true) where
  abbrev at_i : TraceState
  at_i = trace_state_of lines before

  abbrev behind_i : TraceState
  behind_i = state_after_item lines at_i i

  abbrev at_j : TraceState
  at_j = fold (state_after_item lines) behind_i between

  abbrev whole : List Item
  whole = before ++ i ∷ (between ++ j ∷ after)

  whole_is : trace_state_of lines whole ≡ fold (state_after_item lines) (state_after_item lines at_j j) after
  whole_is = trace_state_append lines before (i ∷ (between ++ j ∷ after)) ∙ fold_append (state_after_item lines) behind_i between (j ∷ after)

  first_in : IsIn (made at_i i) (trace_state_of lines whole).events
  first_in = subst (λ w. IsIn (made at_i i) w.events) (sym whole_is) (kept_all lines (state_after_item lines at_j j) after (made at_i i) (kept_events lines at_j j (made at_i i) (kept_all lines behind_i between (made at_i i) (made_in lines at_i i i_is))))

  second_in : IsIn (made at_j j) (trace_state_of lines whole).events
  second_in = subst (λ w. IsIn (made at_j j) w.events) (sym whole_is) (kept_all lines (state_after_item lines at_j j) after (made at_j j) (made_in lines at_j j j_is))

  owned_i : IsOwned lines at_i
  owned_i = trace_state_owned lines before

  owned_behind : IsOwned lines behind_i
  owned_behind = owned_step lines at_i owned_i i

  owned_j : IsOwned lines at_j
  owned_j = owned_all lines behind_i between owned_behind

  begins_at : Stays lines (thread_of i) (coming at_i i) behind_i
  begins_at = subst (Stays lines (thread_of i) (coming at_i i)) (sym (event_is lines at_i i i_is)) (event_begins lines at_i owned_i i)

  -- The methods that are open after some of the items between.
  open_then : (some : List Item) → ((fold (state_after_item lines) behind_i some).threads (thread_of i)).methods ≡ open_methods (thread_of i) ((before ++ i ∷ []) ++ some)
  open_then some = ap (λ (w : TraceState). (w.threads (thread_of i)).methods) (sym (trace_state_append lines (before ++ i ∷ []) some ∙ ap (λ (w : TraceState). fold (state_after_item lines) w some) (trace_state_append lines before (i ∷ [])))) ∙ trace_state_methods lines ((before ++ i ∷ []) ++ some) (thread_of i)

  same_transaction : (coming at_i i ≡ coming at_j j) ↔ ((thread_of i ≡ thread_of j) × StaysAtomic lines (thread_of i) (before ++ i ∷ []) between)
  same_transaction = of (through lines behind_i between owned_behind (thread_of i) (coming at_i i) begins_at)
    where
      of : Through lines (thread_of i) (coming at_i i) behind_i between → (coming at_i i ≡ coming at_j j) ↔ ((thread_of i ≡ thread_of j) × StaysAtomic lines (thread_of i) (before ++ i ∷ []) between)
      of (inl stays) = (
        (λ same. (of_thread lines at_j owned_j j (thread_of i) (coming at_i i) stays.0 same, λ some rest is. subst (λ methods. has_atomic lines methods ≡ true) (open_then some) (stays.1 some rest is))),
        (λ both. of_own lines at_j owned_j j (thread_of i) (coming at_i i) stays.0 both.0),
      )
      of (inr over) = (
        (λ same. absurd (not_over lines at_j owned_j j (coming at_i i) over.0 same)),
        (λ both. absurd (true≢false (sym (both.1 over.1 over.2 over.3) ∙ ap (has_atomic lines) (sym (open_then over.1)) ∙ over.4))),
      )

  pub one_stay : (e f : Event) → IsIn e (trace_state_of lines whole).events → IsIn f (trace_state_of lines whole).events → e.number ≡ length at_i.events + 1 → f.number ≡ length (trace_state_of lines (before ++ i ∷ between)).events + 1
      → (e.transaction ≡ f.transaction) ↔ ((thread_of i ≡ thread_of j) × StaysAtomic lines (thread_of i) (before ++ i ∷ []) between)
  one_stay e f in_e in_f e_is f_is = ((λ same. same_transaction.0 (sym e_own ∙ same ∙ f_own)), (λ both. e_own ∙ same_transaction.1 both ∙ sym f_own))
    where
      counted : IsCounted (trace_state_of lines whole)
      counted = trace_state_counted lines whole

      e_own : e.transaction ≡ coming at_i i
      e_own = ap (λ (g : Event). g.transaction) (one_of_number 1 (trace_state_of lines whole).events e (made at_i i) counted.numbered in_e first_in e_is)

      f_own : f.transaction ≡ coming at_j j
      f_own = ap (λ (g : Event). g.transaction) (one_of_number 1 (trace_state_of lines whole).events f (made at_j j) counted.numbered in_f second_in (f_is ∙ ap (λ (w : TraceState). length w.events + 1) (trace_state_append lines before (i ∷ between))))
