-- The starts of the remaining entries are marked from the lines so far.
use Rattle.std.proofs.Common.{◌≡◌, ◌*◌, ◌-◌, length}
use Rattle.std.specs.List.{fold}
use Rattle.source_lines.specs.Lines.{with_start}
use Rattle.source_lines.specs.SourceLines.{line_starts}
use Rattle.source_lines.proofs.table.mark_starts.Given as goal

abbrev pub invariant-loop-place : goal.invariant-loop-place
invariant-loop-place l = record {
  length_left : length l.rest ≡ 4 * (l.count - l._place);
  same : fold with_start l.lines (line_starts (l.count - l._place) l.rest)
      ≡ fold with_start l.fn.lines (line_starts l.count l.entries);
}
