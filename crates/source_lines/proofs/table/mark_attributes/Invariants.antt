-- The starts of the attributes so far are marked.
use Rattle.std.proofs.Common.{◌≡◌, take, flat_map}
use Rattle.std.specs.List.{fold}
use Rattle.source_lines.specs.Lines.{with_start}
use Rattle.source_lines.specs.SourceLines.{starts_in}
use Rattle.source_lines.proofs.table.mark_attributes.Given as goal

abbrev pub invariant-loop-attribute : goal.invariant-loop-attribute
invariant-loop-attribute l =
    l.lines ≡ fold with_start l.fn.lines (flat_map (starts_in l.pool) (take l.attribute-index l.attributes))
