-- The text has the lines so far.
use Rattle.std.proofs.Common.{◌≡◌, take}
use Rattle.std.specs.String.{string_bytes}
use Rattle.trace_text.specs.Traces.{trace_text}
use Rattle.trace_text.proofs.writing.write_items.Given as goal

abbrev pub invariant-loop-item : goal.invariant-loop-item
invariant-loop-item l = string_bytes l.text ≡ trace_text (take l.item-index l.items)
