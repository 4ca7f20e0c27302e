-- A new checker satisfies its invariant.
use Rattle.std.proofs.Common.{◌≡◌, ℕ, true, false, [], ◌∷◌, get_or, Option, None, refl, sym, ap, subst, ◌∙◌, zero, suc}
use Rattle.std.proofs.lemmas.Bool.{false≢true}
use Rattle.std.proofs.lemmas.Option.{none-some}
use Rattle.velodrome.specs.Specification.{Specification}
use Rattle.velodrome.specs.Transactions.{opening_trace_state, trace_state_of}
use Rattle.thread_states.specs.ThreadStates.{thread_state_in}
use Rattle.atom_order.specs.Shapes.{Shape, no_transactions}
use Rattle.atom_order.proofs.Lived.{nothing_kept}
use Rattle.accesses.specs.Rooms.{kept_of}
use Rattle.atom_graph.specs.declared.found.Found.{Found}
use Rattle.atom_graph.specs.declared.stored_trace.StoredTrace.{StoredTrace}
use Rattle.atom_graph.specs.declared.watch.Watch.{Watch}
use Rattle.atom_graph.specs.Checked.{IsChecker}
use Rattle.atom_graph.specs.Checking.{state_of_fed}
use Rattle.atom_graph.specs.StoredTrace.{HasTraceState, fed_of}
use Rattle.atom_graph.specs.Watched.{IsGraphOf, IsWatched}

none_open : (y : ℕ) → get_or (false ∷ []) y false ≡ true → ⊥
none_open zero is = false≢true is
none_open (suc y) is = false≢true is

pub opening_graph : IsGraphOf opening_trace_state no_transactions []
opening_graph = record {
  keeps = nothing_kept;
  slots = refl;
  opens = λ a. (λ is. absurd (none_open a is), λ is. absurd (none-some a is.1));
  suffices = record { are = λ k h. absurd h; stands = λ e x h. absurd h };
}

trace_state_of_none : (lines : Specification) → trace_state_of lines [] ≡ opening_trace_state
unfolding trace_state_of
trace_state_of_none lines = refl

pub checker_opened : (a : StoredTrace) (v : Watch) → a.threads.table ≡ [] → a.items.items ≡ [] → a.transactions.items ≡ [] → a.begun ≡ 0
    → v.reduced.graph ≡ no_transactions → kept_of v.reduced.accesses ≡ [] → v.found ≡ None → IsChecker a v
checker_opened a v table items transactions begun graph kept found = record {
  trace = subst (λ w. HasTraceState w a) (sym states) (record {
    threads = λ t. ap (λ es. thread_state_in es t) table;
    transactions = sym transactions;
    begun = begun;
  });
  watched = subst (λ w. IsWatched w v.reduced v.found) (sym states)
      (subst (λ (o : Option Found). IsWatched opening_trace_state v.reduced o) (sym found)
      (subst (λ (s : Shape). IsGraphOf opening_trace_state s (kept_of v.reduced.accesses)) (sym graph) (subst (IsGraphOf opening_trace_state no_transactions) (sym kept) opening_graph)));
}
  where
    states : state_of_fed (fed_of a) ≡ opening_trace_state
    states = ap (λ is. trace_state_of a.threads.lines is) items ∙ trace_state_of_none a.threads.lines
