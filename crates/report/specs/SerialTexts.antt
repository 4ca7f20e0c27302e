-- Defines the lines of a trace's events in a serial order (own): the number, a space, and the line of the trace.
use Rattle.std.specs.Prelude.{ℕ, ◌-◌, List, [], ◌++◌, codes, Option, Some, None, slice_get}
use Rattle.std.specs.List.{filter, flat_map}
use Rattle.std.specs.Fmt.{decimal}
use Rattle.jvms_machine.specs.declared.trace.Item.{Item}
use Rattle.trace_text.specs.Traces.{item_line}
use Rattle.velodrome.specs.Transactions.{is_event}

-- Returns the events of a trace: its items without the marks.
abbrev pub events_of : List Item → List Item
events_of items = filter is_event items

-- Returns the line of event n, if there is one.
abbrev pub event_line : ℕ → Option Item → List ℕ
event_line n None = []
event_line n (Some i) = decimal n ++ codes " " ++ item_line i

-- Returns the lines of the events with these numbers, from 1.
abbrev pub serial_text : List Item → List ℕ → List ℕ
serial_text items numbers = flat_map (λ n. event_line n (slice_get (events_of items) (n - 1))) numbers
