-- The lines so far are filled, and the others are as they were.
use Rattle.std.proofs.Common.{◌≡◌, None, take, drop, ◌++◌}
use Rattle.source_lines.specs.Lines.{filled}
use Rattle.source_lines.proofs.table.fill.Given as goal

abbrev pub invariant-loop-line : goal.invariant-loop-line
invariant-loop-line l =
    take l.line-index l.lines ++ filled l.last (drop l.line-index l.lines) ≡ filled None l.fn.lines
