-- The lines so far are written.
use Rattle.std.proofs.Common.{◌≡◌, ◌++◌, take, flat_map}
use Rattle.listing_spec.specs.Printed.{catch_line}
use Rattle.source_text.specs.Lines.{with_lf}
use Rattle.source_text.proofs.member.put_catches.Given as goal

abbrev pub invariant-loop-line : goal.invariant-loop-line
invariant-loop-line l = l.out.items ≡ l.initial.out.items ++ flat_map (λ c. with_lf (catch_line c)) (take l.line-index l.catches)
