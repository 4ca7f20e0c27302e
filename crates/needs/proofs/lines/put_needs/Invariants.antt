-- The lines of the remaining classes follow those so far.
use Rattle.std.proofs.Common.{◌≡◌, ◌++◌, drop, flat_map}
use Rattle.std.specs.List.{enumerate_from}
use Rattle.std.specs.String.{string_bytes}
use Rattle.needs.specs.Lines.{class_lines}
use Rattle.needs.proofs.lines.put_needs.Given as goal

abbrev pub invariant-loop-number : goal.invariant-loop-number
invariant-loop-number l =
    string_bytes l.out
    ++ flat_map (class_lines l.program l.sources.first l.sources.files.now) (enumerate_from l.number (drop l.number l.program))
    ≡ string_bytes l.initial.out
    ++ flat_map (class_lines l.program l.sources.first l.sources.files.now) (enumerate_from 0 l.program)
