-- The machine as a system of threads that take turns, and what a verdict sees of its trace.
use Rattle.std.specs.Prelude.{ℕ, List, length, filter}
use Rattle.departures.specs.Turns.{Turns}
use Rattle.jvms_machine.specs.Start.{Start}
use Rattle.jvms_machine.specs.State.{State}
use Rattle.jvms_machine.specs.Status.{is_enabled}
use Rattle.jvms_machine.specs.Turn.{turn}
use Rattle.jvms_machine.specs.declared.machine.Limits.{Limits}
use Rattle.jvms_machine.specs.declared.trace.Item.{Item}
use Rattle.jvms_program.specs.declared.program.Class.{Class}
use Rattle.mark_laws.specs.Swaps.{is_of}
use Rattle.velodrome.specs.Transactions.{is_event}

-- Returns the machine's turns: its threads, which of them are enabled, and the state after a turn.
abbrev pub turns_of : List Class → Limits → Start → Turns State
turns_of program limits start =
    record {
      threads = λ s. length s.threads;
      is_enabled = λ s t. is_enabled (turn program limits start s t).outcome;
      after = λ s t. (turn program limits start s t).state;
    }

-- Returns the items that a thread's turn adds to the trace.
abbrev pub items_in : List Class → Limits → Start → State → ℕ → List Item
items_in program limits start s t = (turn program limits start s t).items

-- What a verdict sees of a trace: its events, and the items of each thread.
pub record View : Type 0 where
  pub events : List Item
  pub threads : ℕ → List Item

abbrev pub view_of : List Item → View
view_of items = record { events = filter is_event items; threads = λ t. filter (is_of t) items }
