-- All items of a turn, by the states before and after it.
use Rattle.std.specs.Prelude.{List, ℕ, ◌++◌}
use Rattle.jvms_program.specs.declared.program.Class.{Class}
use Rattle.jvms_machine.specs.Events.{acquires_between, forks_between, releases_between}
use Rattle.jvms_machine.specs.Marks.{calls_of, marks_between}
use Rattle.jvms_machine.specs.State.{State}
use Rattle.jvms_machine.specs.declared.trace.Item.{Item}
use Rattle.turn_item_laws.specs.Accesses.{accesses_between}
use Rattle.turn_item_laws.specs.Joins.{joins_between}

-- Returns the items of a turn. A removed call leaves its monitor before its exit, and an added call enters its monitor
-- after its entry. A turn has at most these two items, or one event.
abbrev pub items_between : List Class → ℕ → State → State → List Item
items_between program t before after =
    releases_between t before after
    ++ marks_between program t (calls_of before t) (calls_of after t)
    ++ acquires_between t before after
    ++ forks_between t before after
    ++ joins_between program t before after
    ++ accesses_between program t before after
