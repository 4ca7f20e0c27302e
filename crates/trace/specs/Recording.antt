-- Defines recordings of items.
use Rattle.std.specs.Prelude.{ℕ, List, ◌++◌, length, take, Option, Some, None}
use Rattle.jvms_machine.specs.declared.trace.Item.{Item}

-- Returns the recording after more items.
abbrev pub with_items : Option (List Item) → List Item → Option (List Item)
with_items None more = None
with_items (Some items) more = Some (items ++ more)

-- Returns the number of recorded items.
abbrev pub count_of : Option (List Item) → ℕ
count_of None = 0
count_of (Some items) = length items

-- Returns the recording with its first `count` items.
abbrev pub first_items : ℕ → Option (List Item) → Option (List Item)
first_items count None = None
first_items count (Some items) = Some (take count items)
