-- Defines the order of runs that fail, by their departures (own).
use Rattle.std.specs.Prelude.{◌≡◌, ℕ, Bool, true, false, List, Option, None, Some, length, nat_lt, if◌then◌else◌}
use Rattle.std.specs.Cmp.Lexicographic.{slice_cmp}
use Rattle.std.specs.Ordering.{is_lt, nat_cmp, ordering_then}
use Rattle.std.specs.declared.cmp.Ordering.{Ordering}
use Rattle.departures.specs.declared.departure.Departure.{Departure}
use Rattle.exploration_joins.specs.declared.found.Found.{Found}
use Rattle.exploration_joins.specs.declared.found.Found.TheVariants as found

-- Compares departures by their positions, then by their threads.
abbrev pub departure_order : Departure → Departure → Ordering
departure_order a b = ordering_then (nat_cmp a.position b.position) (nat_cmp a.thread b.thread)

-- Compares runs by the numbers of their departures, then departure by departure.
abbrev pub run_order : List Departure → List Departure → Ordering
run_order a b = ordering_then (nat_cmp (length a) (length b)) (slice_cmp departure_order a b)

-- Decides whether the run of some departures comes before that of others.
abbrev pub comes_before : List Departure → List Departure → Bool
comes_before a b = is_lt (run_order a b)

-- Returns the departures of the run that was found to fail, if they are fewer than the levels.
abbrev pub failing_below : ℕ → Found → Option (List Departure)
failing_below levels (found.Failing departures words) =
    if nat_lt (length departures.items) levels then Some departures.items else None
failing_below levels (found.Covered words) = None
failing_below levels found.Stopped = None

-- Decides whether there is a run, and it comes before the other, if there is one.
abbrev pub is_sooner : Option (List Departure) → Option (List Departure) → Bool
is_sooner None other = false
is_sooner (Some run) None = true
is_sooner (Some run) (Some other) = comes_before run other
