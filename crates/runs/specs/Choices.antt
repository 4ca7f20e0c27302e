-- The choices of a chooser in a run, and their turns.
use Rattle.std.specs.Prelude.{◌≡◌, ℕ, zero, suc, ◌≤◌, ◌⊎◌, List, [], ◌∷◌, length, Option, Some, None}
use Rattle.jvms_machine.specs.declared.machine.Outcome.{Outcome}
use Rattle.jvms_machine.specs.declared.trace.Item.{Item}
use Rattle.trace.specs.Recording.{with_items}
use Rattle.machine.specs.Machine.{Machine, transition_of, with_state}
use Rattle.machine.specs.Runs.{run_of, AreRunTurns}
use Rattle.schedule.specs.Choosers.{Chooser, with_choices, next, IsNextFor}
use Rattle.schedule.specs.Enabled.{enabled_threads}

-- Returns a choice, followed by the choices after it. Without a choice the list is empty.
abbrev pub first_then : Option ℕ → (ℕ → List ℕ) → List ℕ
first_then None rest = []
first_then (Some t) rest = t ∷ rest t

-- Returns the machine after a thread's turn.
abbrev pub after_turn : Machine → ℕ → Machine
after_turn m t = with_state m (transition_of m t).state

-- Returns the chooser's next choice among the enabled threads of a machine, if there is one.
abbrev pub choice_of : Chooser → Machine → Option ℕ
choice_of chooser m = (next chooser (enabled_threads m)).0

-- Returns the chooser after its next choice among the enabled threads of a machine, or after it gave none.
abbrev pub chooser_after : Chooser → Machine → Chooser
chooser_after chooser m = (next chooser (enabled_threads m)).1

-- The thread is the chooser's next choice, and the outcome is that of its turn. The machine, the chooser and the
-- items are those after this turn.
abbrev pub IsTurnOf : Machine → Chooser → Option (List Item) → ℕ × Outcome → Machine → Chooser → Option (List Item) → Type 0
IsTurnOf m chooser items taken after later more =
    (choice_of chooser m ≡ Some taken.0) × (taken.1 ≡ (transition_of m taken.0).outcome)
    × (after ≡ after_turn m taken.0) × (later ≡ chooser_after chooser m) × (more ≡ with_items items (transition_of m taken.0).items)

-- The machine, the chooser and the items are unchanged.
abbrev pub IsUnchanged : Machine → Chooser → Option (List Item) → Machine → Chooser → Option (List Item) → Type 0
IsUnchanged m chooser items after later more = (after ≡ m) × (later ≡ chooser) × (more ≡ items)

-- The turn of the chooser's next choice was taken, or no turn was taken and nothing has changed.
abbrev pub IsTurn : Machine → Chooser → Option (List Item) → Option (ℕ × Outcome) → Machine → Chooser → Option (List Item) → Type 0
IsTurn m chooser items None after later more = IsUnchanged m chooser items after later more
IsTurn m chooser items (Some taken) after later more = IsTurnOf m chooser items taken after later more

-- The turn of the chooser's next choice was taken. If there is no choice, the machine and the items are unchanged.
abbrev pub IsNextTurn : Machine → Chooser → Option (List Item) → Option (ℕ × Outcome) → Machine → Chooser → Option (List Item) → Type 0
IsNextTurn m chooser items None after later more =
    (choice_of chooser m ≡ None) × (after ≡ m) × (later ≡ chooser_after chooser m) × (more ≡ items)
IsNextTurn m chooser items (Some taken) after later more = IsTurnOf m chooser items taken after later more

-- Consecutive turns of a thread were taken, this number of them. The machine, the chooser and the items are those
-- after the last.
pub record AreConsecutiveTurns (m : Machine) (chooser : Chooser) (items : Option (List Item)) (thread : ℕ) (times : ℕ) (after : Machine) (later : Chooser) (more : Option (List Item)) : Type 0 where
  -- Each of them ran, and only the last may have started a thread.
  pub ran : AreRunTurns times thread (length m.state.threads) m items after more
  -- The thread is the chooser's choice for each of them.
  pub chosen : IsNextFor times thread (length m.state.threads) chooser
  -- The chooser has them counted.
  pub counted : later ≡ with_choices times thread chooser

-- Returns the choices that a chooser gives from a machine on, at most this number of them. Each is given for the
-- machine after the turns before.
unfoldable pub choices_from : ℕ → Chooser → Machine → List ℕ
choices_from zero chooser m = []
choices_from (suc most) chooser m =
    let n = next chooser (enabled_threads m) in first_then n.0 (λ t. choices_from most n.1 (after_turn m t))

-- Returns the chooser that follows a choice, or the one that is left if there was no choice.
abbrev pub left_or : Option ℕ → Chooser → (ℕ → Chooser) → Chooser
left_or None left behind = left
left_or (Some t) left behind = behind t

-- Returns the chooser after the choices that it gives from a machine on, at most this number of them.
unfoldable pub chooser_after_choices : ℕ → Chooser → Machine → Chooser
chooser_after_choices zero chooser m = chooser
chooser_after_choices (suc most) chooser m =
    let n = next chooser (enabled_threads m) in left_or n.0 n.1 (λ t. chooser_after_choices most n.1 (after_turn m t))

-- A chooser is unchanged, or has given its next choice in a machine.
abbrev pub MayHaveGiven : Chooser → Machine → Chooser → Type 0
MayHaveGiven chooser m later = (later ≡ chooser) ⊎ (later ≡ chooser_after chooser m)

-- No turn was taken: the machine and the items are unchanged, but the chooser may have given its next choice.
abbrev pub IsUntaken : Machine → Chooser → Option (List Item) → Machine → Chooser → Option (List Item) → Type 0
IsUntaken m chooser items after later more = (after ≡ m) × MayHaveGiven chooser m later × (more ≡ items)

-- A run of at most this number of turns broke off after some first turns, maybe none or all.
pub record BrokeOff (before : Machine) (first : Chooser) (most : ℕ) (after : Machine) (later : Chooser) (items_before : Option (List Item)) (items_after : Option (List Item)) : Type 0 where
  -- The turns of this number of first choices were taken.
  pub made : ℕ
  pub within : made ≤ most
  -- The machine and the items are those after these turns.
  pub state : after ≡ with_state before (run_of before (choices_from made first before)).state
  pub items : items_after ≡ with_items items_before (run_of before (choices_from made first before)).items
  -- The chooser has given the choices of these turns, and maybe the one after them.
  pub given : (later ≡ chooser_after_choices made first before) ⊎ (later ≡ chooser_after_choices (suc made) first before)
