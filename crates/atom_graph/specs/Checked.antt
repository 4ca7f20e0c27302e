-- Defines the invariant of a checker between items (own).
use Rattle.atom_graph.specs.declared.stored_trace.StoredTrace.{StoredTrace}
use Rattle.atom_graph.specs.declared.watch.Watch.{Watch}
use Rattle.atom_graph.specs.Checking.{state_of_fed}
use Rattle.atom_graph.specs.StoredTrace.{HasTraceState, fed_of}
use Rattle.atom_graph.specs.Watched.{IsWatched}

-- All that the checker stores is right for the items that it was fed.
pub record IsChecker (a : StoredTrace) (v : Watch) : Type 0 where
  pub trace : HasTraceState (state_of_fed (fed_of a)) a
  pub watched : IsWatched (state_of_fed (fed_of a)) v.reduced v.found
