-- Departures: the choices of a schedule that differ from the default (Emmi, Qadeer and Rakamarić, Delay-bounded scheduling,
-- 2011).
use Rattle.std.specs.Prelude.{ℕ, ◌+◌, ◌-◌, ◌==◌, Bool, true, false, suc, zero, List, [], ◌∷◌, Option, Some, None}
use Rattle.departures.specs.declared.departure.Departure.{Departure}
use Rattle.departures.specs.Turns.{Turns}

-- Returns a thread under a condition, else what another search finds.
abbrev pub this_or : Bool → ℕ → Option ℕ → Option ℕ
this_or true t rest = Some t
this_or false t rest = rest

-- Returns the thread that a search found, else what another finds.
abbrev pub or_else : Option ℕ → Option ℕ → Option ℕ
or_else None other = other
or_else (Some t) other = Some t

-- Decides whether a search found this thread.
abbrev pub is_just : Option ℕ → ℕ → Bool
is_just None t = false
is_just (Some d) t = d == t

-- Returns 1 for a choice that isn't the default, and 0 for the default.
abbrev pub one_unless : Bool → ℕ
one_unless true = 0
one_unless false = 1

-- Adds a choice to a name, unless it is the default.
abbrev pub named : Bool → ℕ → ℕ → List Departure → List Departure
named true k t rest = rest
named false k t rest = record { position = k; thread = t } ∷ rest

-- Returns the thread of the first departure if it is at this position, else the default.
abbrev pub this_if : Bool → ℕ → ℕ → ℕ
this_if true there t = there
this_if false there t = t

-- Returns the departures after the first if it is at this position, else all of them.
abbrev pub rest_if : Bool → List Departure → List Departure → List Departure
rest_if true later ds = later
rest_if false later ds = ds

-- Returns the choice at a position: the first departure's thread if it is there, else the default.
abbrev pub chosen_at : ℕ → ℕ → List Departure → ℕ
chosen_at k t [] = t
chosen_at k t (d ∷ ds) = this_if (d.position == k) d.thread t

-- Returns the departures after this position.
abbrev pub left_at : ℕ → List Departure → List Departure
left_at k [] = []
left_at k (d ∷ ds) = rest_if (d.position == k) ds (d ∷ ds)

-- Returns the choice at a position, if there is a default, that is if a thread is enabled.
abbrev pub choice_by : ℕ → List Departure → Option ℕ → Option ℕ
choice_by k ds None = None
choice_by k ds (Some t) = Some (chosen_at k t ds)

-- Returns a choice and those that follow it, if there is one.
abbrev pub onwards : Option ℕ → (ℕ → List ℕ) → List ℕ
onwards None more = []
onwards (Some t) more = t ∷ more t

module _ {S : Type 0} (sys : Turns S) where
  -- Returns the first enabled thread of this number of threads, from one on.
  unfoldable pub first_in : S → ℕ → ℕ → Option ℕ
  first_in s t zero = None
  first_in s t (suc n) = this_or (sys.is_enabled s t) t (first_in s (t + 1) n)

  -- Returns the default: the last thread while it is enabled, else the next that is, in rising order and then from the
  -- first thread on.
  unfoldable pub default_of : S → ℕ → Option ℕ
  default_of s last = or_else (first_in s last (sys.threads s - last)) (first_in s 0 (sys.threads s))

  -- Decides whether a choice is the default.
  abbrev pub is_default : S → ℕ → ℕ → Bool
  is_default s last t = is_just (default_of s last) t

  -- Returns the number of departures that a choice is: 0 or 1.
  abbrev pub cost : S → ℕ → ℕ → ℕ
  cost s last t = one_unless (is_default s last t)

  -- Returns the number of departures of choices, after a turn of this last thread.
  unfoldable pub departures : S → ℕ → List ℕ → ℕ
  departures s last [] = 0
  departures s last (t ∷ ts) = cost s last t + departures (sys.after s t) t ts

  -- Returns the name of choices: their departures, counted from this position.
  unfoldable pub name_of : ℕ → S → ℕ → List ℕ → List Departure
  name_of k s last [] = []
  name_of k s last (t ∷ ts) = named (is_default s last t) k t (name_of (k + 1) (sys.after s t) t ts)

  -- Returns the choices of a name, at most this number: the default where no departure is named.
  unfoldable pub choices_of : ℕ → ℕ → S → ℕ → List Departure → List ℕ
  choices_of zero k s last ds = []
  choices_of (suc n) k s last ds =
      onwards (choice_by k ds (default_of s last)) (λ t. choices_of n (k + 1) (sys.after s t) t (left_at k ds))
