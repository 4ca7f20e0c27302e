-- The parts of an exploration: each of n parts has every nth of the schedules with one departure, and those below them.
use Rattle.std.specs.Prelude.{ℕ, zero, suc, ◌+◌, ◌%◌, ◌<◌, ◌==◌, max, Bool, cond, List, [], ◌∷◌}
use Rattle.departures.specs.Jobs.{IsIn, all_children, jobs_of}
use Rattle.departures.specs.Turns.{Turns}
use Rattle.departures.specs.declared.departure.Departure.{Departure}
use Rattle.exploration_parts.specs.declared.part.Part.{Part}

-- Decides whether the schedule without a departure belongs to a part: to part 0.
abbrev pub has_first : Part → Bool
has_first part = part.index == 0

-- Decides whether the schedule at a place among those with one departure belongs to a part.
abbrev pub has_place : Part → ℕ → Bool
has_place part place = place % max part.count 1 == part.index

-- Returns those of these that belong to a part, where the first is at this place.
unfoldable pub those_of : {X : Type 0} → Part → ℕ → List X → List X
those_of part place [] = []
those_of part place (x ∷ xs) = cond (has_place part place) (x ∷ those_of part (place + 1) xs) (those_of part (place + 1) xs)

module _ {S : Type 0} (sys : Turns S) (is_local : S → ℕ → Bool) where
  -- Returns the jobs of a level that belong to a part, in the order in which they are found: a child belongs to the part of
  -- its parent.
  unfoldable pub jobs_of_part : Part → ℕ → S → ℕ → ℕ → List (List Departure)
  jobs_of_part part turns s last zero = cond (has_first part) ([] ∷ []) []
  jobs_of_part part turns s last (suc zero) = those_of part 0 (jobs_of sys is_local turns s last 1)
  jobs_of_part part turns s last (suc (suc level)) =
      all_children sys is_local turns s last (jobs_of_part part turns s last (suc level))

  -- The job is among those of one of this number of parts.
  pub record IsInAPart (count turns : ℕ) (s : S) (last level : ℕ) (ds : List Departure) : Type 0 where
    pub index : ℕ
    pub below : index < count
    pub is : IsIn ds (jobs_of_part (record { index = index; count = count }) turns s last level)
