-- The units so far are escaped.
use Rattle.std.proofs.Common.{◌≡◌, ◌++◌, take, flat_map}
use Rattle.listing_spec.specs.Printed.{escape_of}
use Rattle.source_text.proofs.word.put_inside.Given as goal

abbrev pub invariant-loop-unit : goal.invariant-loop-unit
invariant-loop-unit l = l.out.items ≡ l.initial.out.items ++ flat_map escape_of (take l.unit-index l.text)
