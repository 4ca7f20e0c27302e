-- The tree of names: a child has one more departure, at a later position.
use Rattle.std.specs.Prelude.{◌≡◌, ℕ, ◌+◌, ◌<◌, ◌≤◌, ◌⊎◌, ◌==◌, Bool, true, false, suc, zero, List, [], ◌∷◌, ◌++◌, length}
use Rattle.departures.specs.declared.departure.Departure.{Departure}
use Rattle.departures.specs.Turns.{CanTake, IsSchedule, Turns}
use Rattle.departures.specs.Departures.{choices_of, departures, left_at, name_of}

-- Adds a child whose thread is enabled and isn't the choice.
abbrev pub other_if : Bool → Bool → List Departure → List (List Departure) → List (List Departure)
other_if true false child rest = child ∷ rest
other_if true true child rest = rest
other_if false same child rest = rest

-- Returns children, unless a condition holds.
abbrev pub unless : Bool → List (List Departure) → List (List Departure)
unless true children = []
unless false children = children

-- The name is in the list.
unfoldable pub IsIn : List Departure → List (List Departure) → Type 0
IsIn ds [] = ⊥
IsIn ds (x ∷ xs) = (x ≡ ds) ⊎ IsIn ds xs

-- Each name is in the list once.
unfoldable pub AreDistinct : List (List Departure) → Type 0
AreDistinct [] = Unit {0}
AreDistinct (x ∷ xs) = (IsIn x xs → ⊥) × AreDistinct xs

module _ {S : Type 0} (sys : Turns S) (is_local : S → ℕ → Bool) where
  -- A thread whose next turn is local can take it.
  abbrev pub CanTakeLocals : Type 0
  CanTakeLocals = (s : S) (t : ℕ) → is_local s t ≡ true → CanTake sys s t

  -- The choices leave a thread only where its next turn isn't local.
  unfoldable pub IsReduced : S → ℕ → List ℕ → Type 0
  IsReduced s last [] = Unit {0}
  IsReduced s last (t ∷ ts) = (is_local s last ≡ true → t ≡ last) × IsReduced (sys.after s t) t ts

  -- At this position another thread than this choice can be chosen, and the last thread's next turn isn't local.
  pub record CanDepartHere (k : ℕ) (s : S) (last : ℕ) (choice : ℕ) (d : Departure) : Type 0 where
    pub position : d.position ≡ k
    pub can_take : CanTake sys s d.thread
    pub other : d.thread ≡ choice → ⊥
    pub leaves : is_local s last ≡ false

  -- The departure can be made from the choices, after these that they have.
  unfoldable pub CanDepart : ℕ → S → ℕ → List ℕ → List Departure → Departure → Type 0
  CanDepart k s last [] ds d = ⊥
  CanDepart k s last (t ∷ ts) ds d =
      ((ds ≡ []) × CanDepartHere k s last t d) ⊎ CanDepart (k + 1) (sys.after s t) t ts (left_at k ds) d

  -- A child has one more departure, at a later position.
  abbrev pub IsChild : ℕ → S → ℕ → List Departure → List Departure → Type 0
  IsChild turns s last ds child =
      (d : Departure) × (child ≡ ds ++ d ∷ []) × CanDepart 0 s last (choices_of sys turns 0 s last ds) ds d

  -- The jobs of a level are the children of those of the level before. Level 0 has the name with no departure.
  unfoldable pub IsJob : ℕ → S → ℕ → ℕ → List Departure → Type 0
  IsJob turns s last zero ds = ds ≡ []
  IsJob turns s last (suc level) ds =
      (parent : List Departure) × IsJob turns s last level parent × IsChild turns s last parent ds

  -- The run of a job is a reduced schedule with this name and as many departures as the job's level.
  pub record IsRunOfJob (turns : ℕ) (s : S) (last : ℕ) (level : ℕ) (ds : List Departure) : Type 0 where
    pub schedule : IsSchedule sys turns s (choices_of sys turns 0 s last ds)
    pub is_reduced : IsReduced s last (choices_of sys turns 0 s last ds)
    pub name : name_of sys 0 s last (choices_of sys turns 0 s last ds) ≡ ds
    pub departs : departures sys s last (choices_of sys turns 0 s last ds) ≡ level

  -- The choices are the run of one job: of their name, which is at the level of the number of their departures.
  pub record IsOneJob (turns : ℕ) (s : S) (last : ℕ) (choices : List ℕ) : Type 0 where
    pub job : IsJob turns s last (departures sys s last choices) (name_of sys 0 s last choices)
    pub run : choices_of sys turns 0 s last (name_of sys 0 s last choices) ≡ choices
    pub size : length (name_of sys 0 s last choices) ≡ departures sys s last choices
    pub only : (level : ℕ) (ds : List Departure) → IsJob turns s last level ds → choices_of sys turns 0 s last ds ≡ choices → ds ≡ name_of sys 0 s last choices

  -- The runs of all jobs below this level are good.
  abbrev pub AreGoodBelow : ℕ → S → ℕ → ℕ → (List ℕ → Type 0) → Type 0
  AreGoodBelow turns s last end IsGood =
      (level : ℕ) → level < end → (ds : List Departure) → IsJob turns s last level ds → IsGood (choices_of sys turns 0 s last ds)

  -- The runs of all jobs up to this level are good.
  abbrev pub AreGoodTo : ℕ → S → ℕ → ℕ → (List ℕ → Type 0) → Type 0
  AreGoodTo turns s last most IsGood =
      (level : ℕ) → level ≤ most → (ds : List Departure) → IsJob turns s last level ds → IsGood (choices_of sys turns 0 s last ds)

  -- Returns the names with one more departure, at this position, for each of this number of threads that isn't the
  -- choice and can take the turn.
  unfoldable pub others_in : List Departure → ℕ → S → ℕ → ℕ → ℕ → List (List Departure)
  others_in ds k s t u zero = []
  others_in ds k s t u (suc n) =
      other_if (sys.is_enabled s u) (u == t) (ds ++ record { position = k; thread = u } ∷ []) (others_in ds k s t (u + 1) n)

  -- Returns the children at a position: none before the last departure.
  abbrev pub children_here : List Departure → ℕ → S → ℕ → ℕ → List Departure → List (List Departure)
  children_here ds k s last t [] = unless (is_local s last) (others_in ds k s t 0 (sys.threads s))
  children_here ds k s last t (d ∷ rest) = []

  -- Returns the children of a name, at the positions of these choices.
  unfoldable pub children_in : List Departure → ℕ → S → ℕ → List ℕ → List Departure → List (List Departure)
  children_in ds k s last [] rest = []
  children_in ds k s last (t ∷ c) rest =
      children_here ds k s last t rest ++ children_in ds (k + 1) (sys.after s t) t c (left_at k rest)

  -- Returns the children of a name, by position and thread.
  abbrev pub children_of : ℕ → S → ℕ → List Departure → List (List Departure)
  children_of turns s last ds = children_in ds 0 s last (choices_of sys turns 0 s last ds) ds

  -- Returns the children of each of these names.
  unfoldable pub all_children : ℕ → S → ℕ → List (List Departure) → List (List Departure)
  all_children turns s last [] = []
  all_children turns s last (ds ∷ rest) = children_of turns s last ds ++ all_children turns s last rest

  -- Returns the jobs of a level, in the order in which they are found.
  unfoldable pub jobs_of : ℕ → S → ℕ → ℕ → List (List Departure)
  jobs_of turns s last zero = [] ∷ []
  jobs_of turns s last (suc level) = all_children turns s last (jobs_of turns s last level)
