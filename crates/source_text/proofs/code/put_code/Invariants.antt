-- The lines so far are written.
use Rattle.std.proofs.Common.{◌≡◌, ◌++◌, take, flat_map}
use Rattle.listing_spec.specs.Printed.{item_lines}
use Rattle.source_text.specs.Lines.{text_of_lines}
use Rattle.source_text.proofs.code.put_code.Given as goal

abbrev pub invariant-loop-item : goal.invariant-loop-item
invariant-loop-item l = l.out.items ≡ l.initial.out.items ++ flat_map (λ i. text_of_lines (item_lines i)) (take l.item-index l.code)
