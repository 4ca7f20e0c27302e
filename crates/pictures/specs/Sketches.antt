-- Defines what a picture shows of a trace and its verdict (own).
use Rattle.std.specs.Prelude.{◌≡◌, ℕ, ◌+◌, List, [], length, map, take}
use Rattle.velodrome.specs.declared.verdict.ConflictingPair.{ConflictingPair}
use Rattle.velodrome.specs.declared.verdict.Verdict.{Verdict}
use Rattle.velodrome.specs.declared.verdict.Verdict.TheVariants as verdict
use Rattle.atom_graph.specs.Checking.{Fed, state_of_fed}
use Rattle.pictures.specs.declared.rows.Row.{Row}
use Rattle.pictures.specs.declared.sketches.Sketch.{Sketch}
use Rattle.pictures.specs.Rows.{chosen_rows, rows_from}

-- Returns the maximum number of edges of a cycle that a picture shows.
abbrev pub most_edges : ℕ
most_edges = 64

-- Returns the first edges of a verdict's cycle, each as two conflicting events. An atomic trace has none.
abbrev pub edges_of : Verdict → List ConflictingPair
edges_of (verdict.Atomic order) = []
edges_of (verdict.Cycle first_at transactions pairs) = take most_edges pairs

-- Returns the transactions that these edges join. If the cycle is longer they are one more than the edges.
abbrev pub cycle_of : Verdict → List ℕ
cycle_of (verdict.Atomic order) = []
cycle_of (verdict.Cycle first_at transactions pairs) = take (most_edges + 1) transactions

-- Returns the number of transactions of the whole cycle.
abbrev pub cycle_length : Verdict → ℕ
cycle_length (verdict.Atomic order) = 0
cycle_length (verdict.Cycle first_at transactions pairs) = length transactions

-- Returns all events of a trace as rows.
abbrev pub all_rows : Fed → List Row
all_rows fed = rows_from 1 0 fed.items (map (λ e. e.transaction) (state_of_fed fed).events)

-- The sketch has the events of the trace that are shown, and the cycle of the verdict.
pub record IsSketch (fed : Fed) (v : Verdict) (s : Sketch) : Type 0 where
  pub rows : s.rows.items ≡ chosen_rows (cycle_of v) (edges_of v) (all_rows fed)
  pub cycle : s.cycle.items ≡ cycle_of v
  pub edges : s.edges.items ≡ edges_of v
  pub events : s.events ≡ length (all_rows fed)
  pub transactions : s.transactions ≡ cycle_length v
