-- The lines so far are written.
use Rattle.std.proofs.Common.{◌≡◌, ◌++◌, take, flat_map}
use Rattle.listing_spec.specs.Printed.{throws_line}
use Rattle.source_text.specs.Lines.{with_lf}
use Rattle.source_text.proofs.member.put_throws.Given as goal

abbrev pub invariant-loop-name : goal.invariant-loop-name
invariant-loop-name l = l.out.items ≡ l.initial.out.items ++ flat_map (λ name. with_lf (throws_line name)) (take l.name-index l.names)
