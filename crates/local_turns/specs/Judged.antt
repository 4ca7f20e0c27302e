-- The machine with the state of its trace, which a checker of atomicity keeps.
use Rattle.std.specs.Prelude.{ℕ, Bool, List, [], fold}
use Rattle.departures.specs.Turns.{Turns}
use Rattle.jvms_machine.specs.Start.{Start}
use Rattle.jvms_machine.specs.State.{State}
use Rattle.jvms_machine.specs.declared.machine.Limits.{Limits}
use Rattle.jvms_machine.specs.declared.trace.Item.{Item}
use Rattle.jvms_program.specs.declared.program.Class.{Class}
use Rattle.local_laws.specs.Local.{is_local}
use Rattle.local_turns.specs.Turns.{items_in, turns_of}
use Rattle.velodrome.specs.Specification.{Specification}
use Rattle.velodrome.specs.Transactions.{TraceState, state_after_item}

pub record Judged : Type 0 where
  pub state : State
  pub trace : TraceState

abbrev pub judged_turns : List Class → Limits → Start → Specification → Turns Judged
judged_turns program limits start lines =
    record {
      threads = λ j. (turns_of program limits start).threads j.state;
      is_enabled = λ j t. (turns_of program limits start).is_enabled j.state t;
      after = λ j t.
          record {
            state = (turns_of program limits start).after j.state t;
            trace = fold (state_after_item lines) j.trace (items_in program limits start j.state t);
          };
    }

abbrev pub is_judged_local : List Class → Limits → Start → Judged → ℕ → Bool
is_judged_local program limits start j t = is_local program limits start j.state t

abbrev pub no_items : Judged → ℕ → List Item
no_items j t = []

abbrev pub all_items : List Item → List Item
all_items items = items
