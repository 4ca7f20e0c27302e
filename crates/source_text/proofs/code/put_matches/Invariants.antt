-- The lines so far are written.
use Rattle.std.proofs.Common.{◌≡◌, ◌++◌, take, flat_map}
use Rattle.listing_spec.specs.Printed.{match_line}
use Rattle.source_text.specs.Lines.{with_lf}
use Rattle.source_text.proofs.code.put_matches.Given as goal

abbrev pub invariant-loop-line : goal.invariant-loop-line
invariant-loop-line l = l.out.items ≡ l.initial.out.items ++ flat_map (λ m. with_lf (match_line m)) (take l.line-index l.matches)
