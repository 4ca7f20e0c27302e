-- The lines of the remaining methods follow those so far.
use Rattle.std.proofs.Common.{◌≡◌, ◌++◌, drop, flat_map}
use Rattle.std.specs.List.{enumerate_from}
use Rattle.std.specs.String.{string_bytes}
use Rattle.needs.specs.Lines.{method_lines}
use Rattle.needs.proofs.lines.put_methods.Given as goal

abbrev pub invariant-loop-place : goal.invariant-loop-place
invariant-loop-place l =
    string_bytes l.out
    ++ flat_map (method_lines l.program l.source l.class) (enumerate_from l.place (drop l.place l.class.methods))
    ≡ string_bytes l.initial.out
    ++ flat_map (method_lines l.program l.source l.class) (enumerate_from 0 l.class.methods)
