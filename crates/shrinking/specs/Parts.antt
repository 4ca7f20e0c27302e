-- Departures of which some are left out.
use Rattle.std.specs.Prelude.{◌≡◌, ℕ, ◌+◌, ◌⊎◌, List, [], ◌∷◌, ◌++◌, take, drop}
use Rattle.departures.specs.declared.departure.Departure.{Departure}

-- Returns departures without this number of them, from an index on.
abbrev pub without : ℕ → ℕ → List Departure → List Departure
without index count departures = take index departures ++ drop (index + count) departures

-- The departures are some of others, in the same order: some of those after the first, with or without the first.
unfoldable pub IsPartOf : List Departure → List Departure → Type 0
IsPartOf part [] = part ≡ []
IsPartOf part (d ∷ all) = IsPartOf part all ⊎ ((rest : List Departure) × (part ≡ d ∷ rest) × IsPartOf rest all)
