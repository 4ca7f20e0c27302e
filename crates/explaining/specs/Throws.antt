-- Defines where the uncaught exceptions of a run were thrown (own).
use Rattle.std.specs.Prelude.{ℕ, ◌+◌, Bool, true, false, not, ◌==◌, ◌&&◌, cond, List, [], ◌∷◌, ◌++◌, codes, Option, Some, None, is_some, unwrap_or}
use Rattle.std.specs.Fmt.{decimal}
use Rattle.std.specs.List.{flat_map}
use Rattle.std.specs.Option.{option_and_then, option_map}
use Rattle.jvms_file.specs.declared.class_file.ClassFile.{ClassFile}
use Rattle.jvms_machine.specs.declared.machine.Outcome.{Outcome}
use Rattle.jvms_machine.specs.declared.machine.Outcome.TheVariants as outcome
use Rattle.machine.specs.Machine.{Machine, transition_of}
use Rattle.machine.specs.Views.{frame_at, thread_at}
use Rattle.runs.specs.Choices.{after_turn}
use Rattle.explaining.specs.Places.{frame_part}

-- A throw: the reference of the exception, and the line with its place.
pub record ThrowLine : Type 0 where
  pub exception : ℕ
  pub line : List ℕ

-- Returns the line of no throw. No reference is 0.
abbrev pub no_throw : ThrowLine
no_throw = record { exception = 0; line = [] }

abbrev pub is_raised : Outcome → Bool
is_raised outcome.Raised = true
is_raised _ = false

-- Decides whether the turn of a thread leaves an exception pending when none was before.
abbrev pub throws : Machine → ℕ → Bool
throws m t = not (is_some (option_and_then (λ x. x.pending) (thread_at m t))) && is_raised (transition_of m t).outcome

-- Returns the line of the throw of a thread. `turn` is the number of its turn.
abbrev pub throw_line : ℕ → List ClassFile → ℕ → ℕ → Machine → List ℕ
throw_line first files t turn m =
    codes "thread " ++ decimal t ++ codes " threw at turn " ++ decimal turn
    ++ frame_part m.program first files (frame_at m t 0) ++ codes "\n"

-- Returns the line of the throw of a thread, if the turn of choice u is one.
abbrev pub line_in : ℕ → List ClassFile → ℕ → ℕ → Machine → ℕ → Option (List ℕ)
line_in first files t turn m u = cond (u == t && throws m t) (Some (throw_line first files t turn m)) None

-- Returns the exception that is pending in a thread, or 0 if there is none.
abbrev pub pending_in : Machine → ℕ → ℕ
pending_in m t = unwrap_or (option_and_then (λ x. x.pending) (thread_at m t)) 0

-- Returns the later of two throws. If it throws the same exception again, as a `finally` does, the earlier one is kept.
abbrev pub later_throw : ThrowLine → ℕ → Option (List ℕ) → ThrowLine
later_throw last exception None = last
later_throw last exception (Some line) =
    cond (last.exception == exception) last (record { exception = exception; line = line })

-- Returns the last throw of a thread in the turns of choices, or else the given one. The first choice has this turn.
abbrev pub last_throw : ℕ → List ClassFile → ℕ → ThrowLine → ℕ → Machine → List ℕ → ThrowLine
last_throw first files t last turn m [] = last
last_throw first files t last turn m (u ∷ choices) =
    last_throw first files t
    (later_throw last (pending_in (after_turn m u) t) (line_in first files t turn m u))
    (turn + 1) (after_turn m u) choices

-- Returns the lines of the last throw of each of these threads.
abbrev pub throw_lines : ℕ → List ClassFile → Machine → List ℕ → List (ℕ × List ℕ) → List ℕ
throw_lines first files m choices uncaught =
    flat_map (λ thread. (last_throw first files thread.0 no_throw 1 m choices).line) uncaught
