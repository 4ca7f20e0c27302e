-- Defines the state of a run after the first n of its choices: the machine, the items, and the outcome of the last
-- choice.
use Rattle.std.specs.Prelude.{ℕ, List, [], ◌∷◌, take, Option, Some, None, unwrap_or}
use Rattle.jvms_program.specs.declared.program.Class.{Class}
use Rattle.jvms_machine.specs.declared.machine.Limits.{Limits}
use Rattle.jvms_machine.specs.declared.machine.Outcome.{Outcome}
use Rattle.jvms_machine.specs.declared.trace.Item.{Item}
use Rattle.jvms_machine.specs.Run.{run}
use Rattle.jvms_machine.specs.Start.{Start}
use Rattle.machine.specs.Machine.{Machine}
use Rattle.debugger_commands.specs.Sessions.{state_after}

-- The setting of a session: a program, the limits of its run, and where it starts.
pub record Setting : Type 0 where
  pub program : List Class
  pub limits : Limits
  pub start : Start

abbrev pub setting_of : Machine → Setting
setting_of m = record { program = m.program; limits = m.limits; start = m.start }

-- Returns the machine after the first n choices.
abbrev pub machine_at : Setting → List ℕ → ℕ → Machine
machine_at g choices n =
    record { program = g.program; limits = g.limits; start = g.start; state = state_after g.program g.limits g.start choices n }

-- Returns the items of the first n choices.
unfoldable pub items_at : Setting → List ℕ → ℕ → List Item
items_at g choices n = (run g.program g.limits g.start (take n choices)).items

-- Returns the last of these outcomes, if there is one.
abbrev pub last_outcome : List Outcome → Option Outcome
last_outcome [] = None
last_outcome (o ∷ os) = Some (unwrap_or (last_outcome os) o)

-- Returns the outcome of the last of the first n choices. There is none before the first choice.
unfoldable pub outcome_at : Setting → List ℕ → ℕ → Option Outcome
outcome_at g choices n = last_outcome (run g.program g.limits g.start (take n choices)).outcomes
