-- The lines of the remaining instructions follow those so far.
use Rattle.std.proofs.Common.{◌≡◌, ◌++◌, drop, flat_map}
use Rattle.std.specs.List.{enumerate_from}
use Rattle.std.specs.String.{string_bytes}
use Rattle.needs.specs.Lines.{instruction_line, place_text}
use Rattle.needs.proofs.lines.put_instructions_from.Given as goal

abbrev pub invariant-loop-place : goal.invariant-loop-place
invariant-loop-place l =
    string_bytes l.out
    ++ flat_map (instruction_line l.program (place_text l.source.0 l.source.1 l.method)) (enumerate_from l.place (drop l.place l.instructions))
    ≡ string_bytes l.initial.out
    ++ flat_map (instruction_line l.program (place_text l.source.0 l.source.1 l.method)) (enumerate_from l.first (drop l.first l.instructions))
