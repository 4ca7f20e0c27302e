-- How the items of a trace change the search for a cycle.
use Rattle.std.proofs.Common.{◌≡◌, ◌≢◌, ℕ, ◌+◌, ◌<◌, Bool, true, false, if◌then◌else◌, ◌⊎◌, ◌↔◌, inl, inr, List, [], ◌∷◌, ◌++◌, length, drop, Option, Some, None, refl, sym, ap, subst, ◌∙◌, arith}
use Rattle.std.proofs.lemmas.Option.{none-some, same_Some}
use Rattle.jvms_machine.specs.declared.trace.Item.{Item}
use Rattle.jvms_machine.specs.Events.{thread_of}
use Rattle.velodrome.specs.Cycles.{IsIn}
use Rattle.velodrome.specs.Reach.{IsOpen}
use Rattle.velodrome.specs.Specification.{Specification}
use Rattle.velodrome.specs.Transactions.{ThreadState, Event, TraceState, transactions_after, with_exit, with_event, has_atomic, next_transaction, with_thread_state}
use Rattle.atom_order.specs.Shapes.{Shape}
use Rattle.atom_order.proofs.Members.{among_from_in}
use Rattle.atom_order.proofs.Same.{usable_of_kept}
use Rattle.accesses.specs.Accesses.{Last}
use Rattle.accesses.specs.Rooms.{kept_of}
use Rattle.atom_graph.specs.declared.found.Found.{Found}
use Rattle.atom_graph.specs.declared.reduced.Reduced.{Reduced}
use Rattle.atom_graph.specs.Reduced.{IsLike, IsOverIn, IsReady, IsTaken, MayClose, StaysLive}
use Rattle.atom_graph.specs.StoredTrace.{thread_state_after, ending_transaction, stay_of}
use Rattle.atom_graph.specs.Watched.{IsGraphOf, HasEndedFrom, IsOnFrom, IsWatched}
use Rattle.atom_graph.proofs.Growing.{cycle_found, found_more, graph_begun, graph_closed, graph_linked, graph_same}
use Rattle.atom_graph.proofs.Steps.{IsFair, IsOpenBy, by_open, open_by, open_is}
use Rattle.atom_graph.proofs.Suffices.{MeetByAccesses}

chosen_some : (b : Bool) (n a : ℕ) → (if b then Some n else None) ≡ Some a → (b ≡ true) × (a ≡ n)
chosen_some true n a is = (refl, sym (same_Some n a is))
chosen_some false n a is = absurd (none-some a is)

-- ---- The open transactions after a mark

module _ (lines : Specification) (w : TraceState) (fair : IsFair lines w) (t : ℕ) (thread : ThreadState) where
  -- The thread stays in its transaction, or in none.
  pub opens_stay : thread.transaction ≡ (w.threads t).transaction → (a : ℕ) → IsOpen (with_thread_state t thread w) a ↔ IsOpen w a
  opens_stay same a = (λ is. forth (open_by w t thread a is), λ is. by_open w t thread a (back (open_is w t a is)))
    where
      forth : IsOpenBy w t thread a → IsOpen w a
      forth (inl is) = (t, sym same ∙ is)
      forth (inr other) = (other.0, other.2)

      back : IsOpenBy w t (w.threads t) a → IsOpenBy w t thread a
      back (inl is) = inl (same ∙ is)
      back (inr other) = inr other

  -- Its transaction has ended.
  pub opens_left : (n : ℕ) → (w.threads t).transaction ≡ Some n → thread.transaction ≡ None → (a : ℕ) → IsOpen (with_thread_state t thread w) a ↔ (IsOpen w a × (a ≢ n))
  opens_left n was none a = (λ is. forth (open_by w t thread a is), λ is. by_open w t thread a (back is.1 (open_is w t a is.0)))
    where
      forth : IsOpenBy w t thread a → IsOpen w a × (a ≢ n)
      forth (inl is) = absurd (none-some a (sym none ∙ is))
      forth (inr other) = ((other.0, other.2), λ same. other.1 (fair.owned.one other.0 t a other.2 (was ∙ ap (λ (k : ℕ). Some k) (sym same))))

      back : (a ≢ n) → IsOpenBy w t (w.threads t) a → IsOpenBy w t thread a
      back apart (inl is) = absurd (apart (sym (same_Some n a (sym was ∙ is))))
      back apart (inr other) = inr other

-- ---- An event

module _ (meet : MeetByAccesses) (lines : Specification) (w : TraceState) (fair : IsFair lines w) (i : Item) where
  abbrev t : ℕ
  t = thread_of i

  abbrev thread : ThreadState
  thread = w.threads t

  abbrev goes_on : Bool
  goes_on = has_atomic lines thread.methods

  abbrev n : ℕ
  n = next_transaction thread.transaction w.transactions

  abbrev event : Event
  event = record { number = length w.events + 1; transaction = n; item = i }

  abbrev v : TraceState
  v = with_event lines i thread n w

  abbrev grown : TraceState
  grown = record { threads = w.threads; events = w.events ++ event ∷ []; transactions = transactions_after thread.transaction w.transactions }

  abbrev after : ThreadState
  after = thread_state_after lines n thread

  opens_new : thread.transaction ≡ None → (a : ℕ) → IsOpen v a ↔ (((a ≡ n) × (goes_on ≡ true)) ⊎ IsOpen w a)
  opens_new none a = (λ is. forth (open_by grown t after a is), λ is. by_open grown t after a (back is))
    where
      forth : IsOpenBy grown t after a → ((a ≡ n) × (goes_on ≡ true)) ⊎ IsOpen w a
      forth (inl is) = let parts = chosen_some goes_on n a is in inl (parts.1, parts.0)
      forth (inr other) = inr (other.0, other.2)

      back : ((a ≡ n) × (goes_on ≡ true)) ⊎ IsOpen w a → IsOpenBy grown t after a
      back (inl new) = inl (ap (λ b. if b then Some n else None) new.1 ∙ ap (λ (k : ℕ). Some k) (sym new.0))
      back (inr was) = elim (open_is w t a was) [ inl is ↦ absurd (none-some a (sym none ∙ is)) | inr other ↦ inr other ]

  opens_on : (m : ℕ) → thread.transaction ≡ Some m → (a : ℕ) → IsOpen v a ↔ IsOpen w a
  opens_on m some a = (λ is. forth (open_by grown t after a is), λ is. by_open grown t after a (back (open_is w t a is)))
    where
      own : n ≡ m
      own = ap (λ o. next_transaction o w.transactions) some

      forth : IsOpenBy grown t after a → IsOpen w a
      forth (inl is) = (t, some ∙ ap (λ (k : ℕ). Some k) (sym own ∙ sym (chosen_some goes_on n a is).1))
      forth (inr other) = (other.0, other.2)

      back : IsOpenBy w t thread a → IsOpenBy grown t after a
      back (inl is) = inl (ap (λ b. if b then Some n else None) (fair.owned.atomic t m some) ∙ ap (λ (k : ℕ). Some k) own ∙ sym some ∙ is)
      back (inr other) = inr other

  event_graph : (o : Option ℕ) (old new : Reduced) → thread.transaction ≡ o → IsGraphOf w old.graph (kept_of old.accesses)
      → IsTaken (length w.events + 1) n (stay_of o goes_on) i old new → IsGraphOf v new.graph (kept_of new.accesses)
  event_graph None old new is g taken =
      graph_begun meet w v event old new g refl refl goes_on (ap (λ o. next_transaction o w.transactions) is) (ap (λ o. transactions_after o w.transactions) is) (opens_new is) taken
  event_graph (Some m) old new is g taken =
      let own : n ≡ m = ap (λ o. next_transaction o w.transactions) is in
      let there : IsIn n old.graph.live = subst (λ k. IsIn k old.graph.live) (sym own) (g.keeps.opens m ((g.opens m).1 (t, is))) in
      graph_linked meet w v event old new g refl refl (ap (λ o. transactions_after o w.transactions) is) there (opens_on m is) taken

  -- After the event the search is right again.
  pub event_watched : (found now : Option Found) (old new : Reduced) → IsWatched w old found
      → IsOnFrom (length w.events + 1) n (stay_of thread.transaction goes_on) i found now old new → IsWatched v new now
  event_watched None None old new watched on = event_graph thread.transaction old new refl watched on
  event_watched None (Some f) old new watched on = cycle_found meet w event old watched refl f on
  event_watched (Some f) now old new watched on = subst (λ (o : Option Found). IsWatched v new o) (sym on) (found_more w.events (event ∷ []) f watched)

  -- The graph is ready for the event.
  pub event_ready : (s : Shape) (kept : List Last) → w.transactions < 100000001 → IsGraphOf w s kept → IsReady (stay_of thread.transaction goes_on) n s
  event_ready s kept few g = record {
    usable = usable_of_kept w.events w.transactions s g.keeps;
    slots = let long = g.slots in omega arith;
    live = by thread.transaction refl;
  }
    where
      by : (o : Option ℕ) → thread.transaction ≡ o → StaysLive (stay_of o goes_on) (next_transaction o w.transactions) s
      by None is = tt
      by (Some m) is = among_from_in m s.live (g.keeps.opens m ((g.opens m).1 (t, is)))

-- ---- The exit of a method

module _ (lines : Specification) (w : TraceState) (fair : IsFair lines w) (t : ℕ) where
  abbrev left : ThreadState
  left = with_exit lines (w.threads t)

  abbrev u : TraceState
  u = with_thread_state t left w

  like : (old new : Reduced) → left.transaction ≡ (w.threads t).transaction → IsGraphOf w old.graph (kept_of old.accesses) → IsLike old new → IsGraphOf u new.graph (kept_of new.accesses)
  like old new same g is =
      graph_same w u new.graph (kept_of new.accesses) refl refl (opens_stay lines w fair t left same)
      (subst (λ (s : Shape). IsGraphOf w s (kept_of new.accesses)) (sym is.graph) (subst (IsGraphOf w old.graph) (sym is.kept) g))

  exit_graph : (b : Bool) (o : Option ℕ) (old new : Reduced) → has_atomic lines (drop 1 (w.threads t).methods) ≡ b → (w.threads t).transaction ≡ o
      → IsGraphOf w old.graph (kept_of old.accesses) → IsOverIn (if b then None else o) old new → IsGraphOf u new.graph (kept_of new.accesses)
  exit_graph true o old new stays is g over = like old new (ap (λ b. if b then (w.threads t).transaction else None) stays) g over
  exit_graph false None old new stays is g over = like old new (ap (λ b. if b then (w.threads t).transaction else None) stays ∙ sym is) g over
  exit_graph false (Some n) old new stays is g over =
      graph_closed w u n old.graph new.graph (kept_of new.accesses) refl refl
      (opens_left lines w fair t left n is (ap (λ b. if b then (w.threads t).transaction else None) stays)) over.0 (subst (IsGraphOf w old.graph) (sym over.1) g)

  -- After the exit the search is right again.
  pub exit_watched : (found : Option Found) (old new : Reduced) → IsWatched w old found → HasEndedFrom (ending_transaction lines (w.threads t)) found old new → IsWatched u new found
  exit_watched None old new watched over = exit_graph (has_atomic lines (drop 1 (w.threads t).methods)) (w.threads t).transaction old new refl refl watched over
  exit_watched (Some f) old new watched over = watched

  -- The graph is ready for the exit.
  pub exit_ready : (s : Shape) (kept : List Last) → IsGraphOf w s kept → MayClose (ending_transaction lines (w.threads t)) s
  exit_ready s kept g = by (has_atomic lines (drop 1 (w.threads t).methods)) (w.threads t).transaction refl
    where
      by : (b : Bool) (o : Option ℕ) → (w.threads t).transaction ≡ o → MayClose (if b then None else o) s
      by true o is = tt
      by false None is = tt
      by false (Some n) is = (usable_of_kept w.events w.transactions s g.keeps, among_from_in n s.live (g.keeps.opens n ((g.opens n).1 (t, is))))

-- The entry of a method changes nothing.
pub enter_watched : (lines : Specification) (w : TraceState) (fair : IsFair lines w) (t : ℕ) (entered : ThreadState) → entered.transaction ≡ (w.threads t).transaction
    → (found : Option Found) (r : Reduced) → IsWatched w r found → IsWatched (with_thread_state t entered w) r found
enter_watched lines w fair t entered same None r watched = graph_same w (with_thread_state t entered w) r.graph (kept_of r.accesses) refl refl (opens_stay lines w fair t entered same) watched
enter_watched lines w fair t entered same (Some f) r watched = watched

-- If neither the graph nor the remembered accesses have changed, the search is still right.
pub like_watched : (w : TraceState) (found : Option Found) (old new : Reduced) → IsLike old new → IsWatched w old found → IsWatched w new found
like_watched w None old new is watched = subst (λ (s : Shape). IsGraphOf w s (kept_of new.accesses)) (sym is.graph) (subst (IsGraphOf w old.graph) (sym is.kept) watched)
like_watched w (Some f) old new is watched = watched
