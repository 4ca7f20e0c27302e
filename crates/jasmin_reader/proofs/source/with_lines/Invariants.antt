use Rattle.std.proofs.Common.{◌≡◌, ◌+◌, ◌≤◌, length, drop}
use Rattle.std.specs.Str.Lines.{lines}
use Rattle.jasmin.specs.Reading.{empty_reading, with_lines}
use Rattle.jasmin_reader.proofs.source.with_lines.Given as goal

abbrev pub invariant-loop-line : goal.invariant-loop-line
invariant-loop-line l = record {
  reads : with_lines l.number l.read (drop l.number (lines l.text)) ≡ with_lines 0 empty_reading (lines l.text);
  counts : l.number ≡ length l.yielded;
  fits : l.number + goal.iterator-loop-line.remaining l.line-iterator ≤ goal.iterator-loop-line.remaining l.initial.line-iterator;
}
