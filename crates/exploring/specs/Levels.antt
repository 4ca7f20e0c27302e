-- The jobs of a level, which are kept one after another.
use Rattle.std.specs.Prelude.{ℕ, zero, suc, List, [], ◌∷◌, take, drop}
use Rattle.departures.specs.declared.departure.Departure.{Departure}

-- The jobs of a level, each of which has this number of departures.
pub record LevelJobs : Type 0 where
  pub each : ℕ
  pub jobs : List (List Departure)

-- Returns the first jobs of a list of departures, this number of them, each with this number of departures.
unfoldable pub jobs_in : ℕ → ℕ → List Departure → List (List Departure)
jobs_in zero each departures = []
jobs_in (suc count) each departures = take each departures ∷ jobs_in count each (drop each departures)
