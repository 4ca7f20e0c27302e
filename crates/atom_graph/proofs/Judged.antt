-- The verdict of a checker on the trace.
use Rattle.std.proofs.Common.{◌≡◌, ℕ, true, false, List, ◌++◌, length, Option, Some, None, refl, sym, subst, true≢false, is_some}
use Rattle.velodrome.specs.Cycles.{AreAtomic, IsCycle}
use Rattle.velodrome.specs.Orders.{IsOrder}
use Rattle.velodrome.specs.Reach.{AreReached}
use Rattle.velodrome.specs.Rearrangements.{IsRearrangement, IsSerial}
use Rattle.velodrome.specs.Transactions.{TraceState}
use Rattle.velodrome.specs.Verdicts.{IsVerdict}
use Rattle.velodrome.specs.declared.verdict.Verdict.{Verdict}
use Rattle.velodrome.specs.declared.verdict.Verdict.TheVariants as verdict
use Rattle.serial_order.specs.Serial.{AreSerialOf, HasItems, IsOrderOf}
use Rattle.serial_order.proofs.Ranks.{cycle_has_no_rearrangement}
use Rattle.atom_order.specs.Shapes.{Shape, order_of}
use Rattle.atom_order.proofs.Cycle.{taken}
use Rattle.atom_order.proofs.Edges.{cycle_within}
use Rattle.atom_order.proofs.Lived.{lived_reached}
use Rattle.atom_order.proofs.Reached.{kept_atomic, kept_order}
use Rattle.accesses.specs.Accesses.{Last}
use Rattle.accesses.specs.Rooms.{kept_of}
use Rattle.atom_graph.specs.declared.found.Found.{Found}
use Rattle.atom_graph.specs.declared.stored_trace.StoredTrace.{StoredTrace}
use Rattle.atom_graph.specs.declared.watch.Watch.{Watch}
use Rattle.atom_graph.specs.Checked.{IsChecker}
use Rattle.atom_graph.specs.Checking.{state_of_fed}
use Rattle.atom_graph.specs.Reduced.{IsShown}
use Rattle.atom_graph.specs.StoredTrace.{fed_of}
use Rattle.atom_graph.specs.Watched.{IsFoundIn, IsGraphOf, IsWatched}

-- ---- Verdicts

-- A cycle that was found is a cycle of all events.
pub found_cycle : (w : TraceState) (f : Found) → IsFoundIn w.events f → (ts : List ℕ) × IsCycle w.events ts
found_cycle w f is = (is.first.0.0, cycle_within _ w.events is.first.0.0 (λ e h. taken f.first_at w.events e h) is.first.0.1)

pub found_verdict : (w : TraceState) (f : Found) (x : Verdict) → IsFoundIn w.events f → IsShown f x → IsVerdict w x
found_verdict w f x is shown = subst (IsVerdict w) (sym shown) (is.first, is.shown)

pub graph_atomic : (w : TraceState) (s : Shape) (kept : List Last) → IsGraphOf w s kept → AreAtomic w.events
graph_atomic w s kept g = kept_atomic w.events w.transactions (order_of s) g.keeps

pub graph_order : (w : TraceState) (s : Shape) (kept : List Last) (order : List ℕ) → order ≡ s.dropped ++ s.live → IsGraphOf w s kept → IsOrder w.events w.transactions order
graph_order w s kept order is g = subst (IsOrder w.events w.transactions) (sym is) (kept_order w.events w.transactions (order_of s) g.keeps)

pub graph_verdict : (w : TraceState) (s : Shape) (kept : List Last) (order : List ℕ) → order ≡ s.dropped ++ s.live → IsGraphOf w s kept → IsVerdict w (verdict.Atomic order)
graph_verdict w s kept order is g = (graph_atomic w s kept g, graph_order w s kept order is g)

module _ (a : StoredTrace) (v : Watch) (is : IsChecker a v) where
  abbrev w : TraceState
  w = state_of_fed (fed_of a)

  -- What the search has stored, when no cycle or one was found.
  pub watched_none : v.found ≡ None → IsGraphOf (state_of_fed (fed_of a)) v.reduced.graph (kept_of v.reduced.accesses)
  watched_none none = subst (λ (o : Option Found). IsWatched w v.reduced o) none is.watched

  pub watched_some : (f : Found) → v.found ≡ Some f → IsFoundIn (state_of_fed (fed_of a)).events f
  watched_some f some = subst (λ (o : Option Found). IsWatched w v.reduced o) some is.watched

  pub live_counted : AreAtomic (state_of_fed (fed_of a)).events → AreReached (state_of_fed (fed_of a)) (length v.reduced.graph.live)
  live_counted atomic = by v.found is.watched
    where
      by : (o : Option Found) → IsWatched w v.reduced o → AreReached w (length v.reduced.graph.live)
      by None g = lived_reached w v.reduced.graph g.keeps g.opens
      by (Some f) found = let cycle = found_cycle w f found in absurd (atomic cycle.0 cycle.1)

  order_asked : (order : List ℕ) → v.found ≡ None → order ≡ v.reduced.graph.dropped ++ v.reduced.graph.live → IsOrderOf a.threads.lines a.items.items a.transactions.items order
  order_asked order none are = record {
    of_events = is.trace.transactions;
    is_order = graph_order w v.reduced.graph (kept_of v.reduced.accesses) order are (watched_none none);
  }

  pub serial_asked : (order : List ℕ) → v.found ≡ None → order ≡ v.reduced.graph.dropped ++ v.reduced.graph.live → HasItems a.transactions.items order
  serial_asked order none are = (a.threads.lines, a.items.items, order_asked order none are)

  pub serial_some : (order numbers : List ℕ) → v.found ≡ None → order ≡ v.reduced.graph.dropped ++ v.reduced.graph.live → AreSerialOf a.transactions.items order numbers
      → AreAtomic (state_of_fed (fed_of a)).events × IsSerial (state_of_fed (fed_of a)).events numbers
  serial_some order numbers none are serial =
      (graph_atomic w v.reduced.graph (kept_of v.reduced.accesses) (watched_none none), serial a.threads.lines a.items.items (order_asked order none are))

  -- The cycle, if one was found.
  pub some_found : is_some v.found ≡ true → (f : Found) × (v.found ≡ Some f)
  some_found = by v.found refl
    where
      by : (o : Option Found) → v.found ≡ o → is_some o ≡ true → (f : Found) × (v.found ≡ Some f)
      by None is h = absurd (true≢false (sym h))
      by (Some f) is h = (f, is)

  pub none_found : is_some v.found ≡ false → v.found ≡ None
  none_found = by v.found refl
    where
      by : (o : Option Found) → v.found ≡ o → is_some o ≡ false → v.found ≡ None
      by None is h = is
      by (Some f) is h = absurd (true≢false h)

  pub serial_none : (f : Found) → v.found ≡ Some f → ((ts : List ℕ) × IsCycle (state_of_fed (fed_of a)).events ts) × ((numbers : List ℕ) → IsRearrangement (state_of_fed (fed_of a)).events numbers → ⊥)
  serial_none f some =
      let cycle = found_cycle w f (watched_some f some) in
      (cycle, λ numbers r. cycle_has_no_rearrangement a.threads.lines a.items.items cycle.0 numbers cycle.1 r)
