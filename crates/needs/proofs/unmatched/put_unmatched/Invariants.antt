-- The lines so far.
use Rattle.std.proofs.Common.{◌≡◌, ◌++◌, take, flat_map}
use Rattle.std.specs.String.{string_bytes}
use Rattle.needs.specs.Unmatched.{unmatched_line}
use Rattle.needs.proofs.unmatched.put_unmatched.Given as goal

abbrev pub invariant-loop-line : goal.invariant-loop-line
invariant-loop-line l =
    string_bytes l.out ≡ string_bytes l.initial.out ++ flat_map (unmatched_line l.program) (take l.line-index l.lines)
