-- The choices of round robin, by the past choices. They are listed with the last one first.
use Rattle.std.specs.Prelude.{ℕ, ◌+◌, min, ◌==◌, if◌then◌else◌, List, [], ◌∷◌, Option}
use Rattle.std.specs.List.{cons_option}
use Rattle.schedule.specs.Choosers.{Chooser, RoundRobin, round_robin}

-- Returns the last thread chosen, or thread 0 before the first choice.
abbrev pub last_of : List ℕ → ℕ
last_of [] = 0
last_of (t ∷ past) = t

-- Returns the number of last consecutive choices of this thread.
abbrev pub consecutive_choices : ℕ → List ℕ → ℕ
consecutive_choices thread [] = 0
consecutive_choices thread (t ∷ past) = if t == thread then consecutive_choices thread past + 1 else 0

-- Returns the choice after past choices among enabled threads, if there is one.
abbrev pub choice_after : ℕ → List ℕ → List ℕ → Option ℕ
choice_after quantum past enabled = round_robin quantum (last_of past) (consecutive_choices (last_of past) past) enabled

-- Returns round robin after past choices.
abbrev pub round_robin_after : ℕ → List ℕ → Chooser
round_robin_after quantum past = RoundRobin quantum (last_of past) (min quantum (consecutive_choices (last_of past) past))

-- Returns the past choices with one more, if there is one.
abbrev pub with_choice : Option ℕ → List ℕ → List ℕ
with_choice chosen past = cons_option chosen past
