-- What a checker stores is right after each item.
use Rattle.std.proofs.Common.{◌≡◌, ℕ, ◌+◌, ◌<◌, ◌≤◌, true, ◌==◌, if◌then◌else◌, List, [], ◌∷◌, ◌++◌, length, Option, None, refl, sym, ap, subst, ◌∙◌, arith}
use Rattle.std.proofs.lemmas.List.{length-map, map-append}
use Rattle.jvms_program.specs.declared.key.MethodKey.{MethodKey}
use Rattle.jvms_machine.specs.declared.trace.Item.{Item}
use Rattle.jvms_machine.specs.declared.trace.Item.TheVariants as item
use Rattle.jvms_machine.specs.Events.{thread_of}
use Rattle.velodrome.specs.Specification.{Specification}
use Rattle.velodrome.specs.Transactions.{ThreadState, Event, TraceState, transactions_after, with_entry, with_exit, with_event, has_atomic, is_event, next_transaction, state_after_item, with_thread_state}
use Rattle.thread_states.specs.ThreadStates.{thread_state_in}
use Rattle.accesses.specs.Rooms.{kept_of}
use Rattle.atom_graph.specs.declared.found.Found.{Found}
use Rattle.atom_graph.specs.declared.stay.Stay.{Stay}
use Rattle.atom_graph.specs.declared.stored_trace.StoredTrace.{StoredTrace}
use Rattle.atom_graph.specs.declared.watch.Watch.{Watch}
use Rattle.atom_graph.specs.Checked.{IsChecker}
use Rattle.atom_graph.specs.Checking.{Fed, state_of_fed}
use Rattle.atom_graph.specs.Reduced.{IsReady, MayClose}
use Rattle.atom_graph.specs.StoredTrace.{IsHappened, IsMarkedBy, IsSame, HasTraceState, thread_state_after, fed_of, ending_transaction, stay_of}
use Rattle.atom_graph.specs.Watched.{IsIdle, HasEnded, IsOn, IsOnFrom, IsWatched}
use Rattle.atom_graph.proofs.Steps.{IsFair, enter_is, event_is, exit_is, trace_state_fair, trace_state_more}
use Rattle.atom_graph.proofs.Suffices.{MeetByAccesses}
use Rattle.atom_graph.proofs.Watching.{enter_watched, event_ready, event_watched, exit_ready, exit_watched, like_watched}

-- ---- Nothing but memory was reserved

pub fed_is : (lines more : Specification) (items others : List Item) → more ≡ lines → others ≡ items
    → let one : Fed = record { lines = more; items = others } in let other : Fed = record { lines = lines; items = items } in one ≡ other
fed_is lines more items others same alike =
    ap (λ (l : Specification). let f : Fed = record { lines = l; items = others } in f) same
    ∙ ap (λ (is : List Item). let f : Fed = record { lines = lines; items = is } in f) alike

pub fed_same : (a b : StoredTrace) → IsSame a b → fed_of b ≡ fed_of a
fed_same a b same = fed_is a.threads.lines b.threads.lines a.items.items b.items.items same.lines same.items

pub checker_same : (a b : StoredTrace) (v u : Watch) → IsChecker a v → IsSame a b → IsIdle v u → IsChecker b u
checker_same a b v u is same idle = record {
  trace = subst (λ w. HasTraceState w b) (sym states) (record {
    threads = λ t. same.threads t ∙ is.trace.threads t;
    transactions = is.trace.transactions ∙ sym same.transactions;
    begun = same.begun ∙ is.trace.begun;
  });
  watched = subst (λ w. IsWatched w u.reduced u.found) (sym states)
      (subst (λ (o : Option Found). IsWatched (state_of_fed (fed_of a)) u.reduced o) (sym idle.found)
      (like_watched (state_of_fed (fed_of a)) v.found v.reduced u.reduced idle.reduced is.watched));
}
  where
    states : state_of_fed (fed_of b) ≡ state_of_fed (fed_of a)
    states = ap state_of_fed (fed_same a b same)

-- The search is unchanged.
pub idle : (v : Watch) → IsIdle v v
idle v = record { reduced = record { graph = refl; kept = refl }; found = refl }

-- ---- The checker's counts

module _ (a : StoredTrace) (v : Watch) (is : IsChecker a v) where
  abbrev w : TraceState
  w = state_of_fed (fed_of a)

  pub events_counted : length a.transactions.items ≡ length (state_of_fed (fed_of a)).events
  events_counted = ap length (sym is.trace.transactions) ∙ length-map w.events (λ (e : Event). e.transaction)

  pub fair : IsFair a.threads.lines (state_of_fed (fed_of a))
  fair = trace_state_fair a.threads.lines a.items.items

  pub begun_few : a.begun ≤ length a.transactions.items
  begun_few = let short = fair.short in let begun = is.trace.begun in let events = events_counted in omega arith

  -- ---- A mark

  pub checker_marked : (b : StoredTrace) (u : Watch) (t : ℕ) (i : Item) (change : ThreadState → ThreadState)
      → state_after_item a.threads.lines (state_of_fed (fed_of a)) i ≡ with_thread_state t (change ((state_of_fed (fed_of a)).threads t)) (state_of_fed (fed_of a))
      → IsMarkedBy t (change (thread_state_in a.threads.table t)) i a b
      → IsWatched (with_thread_state t (change ((state_of_fed (fed_of a)).threads t)) (state_of_fed (fed_of a))) u.reduced u.found → IsChecker b u
  checker_marked b u t i change step marked watched = record {
    trace = subst (λ x. HasTraceState x b) (sym states) (record {
      threads = λ y. marked.threads y
          ∙ ap (λ c. if y == t then change c else thread_state_in a.threads.table y) (is.trace.threads t)
          ∙ ap (λ c. if y == t then change (w.threads t) else c) (is.trace.threads y);
      transactions = is.trace.transactions ∙ sym marked.transactions;
      begun = marked.begun ∙ is.trace.begun;
    });
    watched = subst (λ x. IsWatched x u.reduced u.found) (sym states) watched;
  }
    where
      states : state_of_fed (fed_of b) ≡ with_thread_state t (change ((state_of_fed (fed_of a)).threads t)) (state_of_fed (fed_of a))
      states = ap state_of_fed (fed_is a.threads.lines b.threads.lines (a.items.items ++ i ∷ []) b.items.items marked.lines marked.items) ∙ trace_state_more (fed_of a) i ∙ step

  pub checker_entered : (b : StoredTrace) (t : ℕ) (m : MethodKey) → IsMarkedBy t (with_entry m (thread_state_in a.threads.table t)) (item.Enter t m) a b → IsChecker b v
  checker_entered b t m marked =
      checker_marked b v t (item.Enter t m) (with_entry m) (enter_is a.threads.lines w t m) marked
      (enter_watched a.threads.lines w fair t (with_entry m (w.threads t)) refl v.found v.reduced is.watched)

  over_is : (t : ℕ) → ending_transaction a.threads.lines (thread_state_in a.threads.table t) ≡ ending_transaction a.threads.lines (w.threads t)
  over_is t = ap (ending_transaction a.threads.lines) (is.trace.threads t)

  pub exits_ready : (t : ℕ) → v.found ≡ None → MayClose (ending_transaction a.threads.lines (thread_state_in a.threads.table t)) v.reduced.graph
  exits_ready t none =
      subst (λ o. MayClose o v.reduced.graph) (sym (over_is t))
      (exit_ready a.threads.lines w fair t v.reduced.graph (kept_of v.reduced.accesses) (subst (λ (o : Option Found). IsWatched w v.reduced o) none is.watched))

  pub checker_exited : (b : StoredTrace) (u : Watch) (t : ℕ) (m : MethodKey) → HasEnded (ending_transaction a.threads.lines (thread_state_in a.threads.table t)) v u
      → IsMarkedBy t (with_exit a.threads.lines (thread_state_in a.threads.table t)) (item.Exit t m) a b → IsChecker b u
  checker_exited b u t m left marked =
      checker_marked b u t (item.Exit t m) (with_exit a.threads.lines) (exit_is a.threads.lines w t m) marked
      (subst (λ (o : Option Found). IsWatched (with_thread_state t (with_exit a.threads.lines (w.threads t)) w) u.reduced o) (sym left.1)
      (exit_watched a.threads.lines w fair t v.found v.reduced u.reduced is.watched
      (subst (λ o. HasEnded o v u) (over_is t) left).0))

  -- ---- An event

  module _ (i : Item) (event : is_event i ≡ true) where
    abbrev t : ℕ
    t = thread_of i

    abbrev here : ThreadState
    here = thread_state_in a.threads.table (thread_of i)

    abbrev n : ℕ
    n = next_transaction here.transaction a.begun

    abbrev s : Stay
    s = stay_of here.transaction (has_atomic a.threads.lines here.methods)

    n_is : n ≡ next_transaction (w.threads t).transaction w.transactions
    n_is = ap (λ (c : ThreadState). next_transaction c.transaction a.begun) (is.trace.threads t) ∙ ap (next_transaction (w.threads t).transaction) is.trace.begun

    s_is : s ≡ stay_of (w.threads t).transaction (has_atomic a.threads.lines (w.threads t).methods)
    s_is = ap (λ (c : ThreadState). stay_of c.transaction (has_atomic a.threads.lines c.methods)) (is.trace.threads t)

    pub events_ready : MeetByAccesses → length a.transactions.items < 100000000 → v.found ≡ None → IsReady s n v.reduced.graph
    events_ready meet few none =
        let begun = is.trace.begun in
        let less = begun_few in
        subst (λ k. IsReady s k v.reduced.graph) (sym n_is)
        (subst (λ k. IsReady k (next_transaction (w.threads t).transaction w.transactions) v.reduced.graph) (sym s_is)
        (event_ready meet a.threads.lines w fair i v.reduced.graph (kept_of v.reduced.accesses) (omega arith) (subst (λ (o : Option Found). IsWatched w v.reduced o) none is.watched)))

    abbrev made : TraceState
    made = with_event a.threads.lines i (w.threads t) (next_transaction (w.threads t).transaction w.transactions) w

    event_stored : (b : StoredTrace) → IsHappened (thread_of i) n i a b → HasTraceState made b
    event_stored b hap = record {
      threads = λ y. hap.threads y
          ∙ ap (λ c. if y == t then thread_state_after a.threads.lines n c else thread_state_in a.threads.table y) (is.trace.threads t)
          ∙ ap (λ k. if y == t then thread_state_after a.threads.lines k (w.threads t) else thread_state_in a.threads.table y) n_is
          ∙ ap (λ c. if y == t then thread_state_after a.threads.lines (next_transaction (w.threads t).transaction w.transactions) (w.threads t) else c) (is.trace.threads y);
      transactions = map-append (λ (e : Event). e.transaction) w.events _
          ∙ ap (λ ts. ts ++ next_transaction (w.threads t).transaction w.transactions ∷ []) is.trace.transactions
          ∙ ap (λ k. a.transactions.items ++ k ∷ []) (sym n_is) ∙ sym hap.transactions;
      begun = hap.begun ∙ ap (λ (c : ThreadState). transactions_after c.transaction a.begun) (is.trace.threads t) ∙ ap (transactions_after (w.threads t).transaction) is.trace.begun;
    }

    pub checker_event : MeetByAccesses → (b : StoredTrace) (u : Watch) → IsOn (length a.transactions.items + 1) n s i v u → IsHappened (thread_of i) n i a b → IsChecker b u
    checker_event meet b u on hap = record {
      trace = subst (λ x. HasTraceState x b) (sym states) (event_stored b hap);
      watched = subst (λ x. IsWatched x u.reduced u.found) (sym states)
          (event_watched meet a.threads.lines w fair i v.found u.found v.reduced u.reduced is.watched
          (subst (λ k. IsOnFrom (k + 1) (next_transaction (w.threads t).transaction w.transactions) (stay_of (w.threads t).transaction (has_atomic a.threads.lines (w.threads t).methods)) i v.found u.found v.reduced u.reduced) events_counted
          (subst (λ k. IsOnFrom (length a.transactions.items + 1) (next_transaction (w.threads t).transaction w.transactions) k i v.found u.found v.reduced u.reduced) s_is
          (subst (λ k. IsOnFrom (length a.transactions.items + 1) k s i v.found u.found v.reduced u.reduced) n_is on))));
    }
      where
        states : state_of_fed (fed_of b) ≡ made
        states = ap state_of_fed (fed_is a.threads.lines b.threads.lines (a.items.items ++ i ∷ []) b.items.items hap.lines hap.items) ∙ trace_state_more (fed_of a) i ∙ event_is a.threads.lines w i event
