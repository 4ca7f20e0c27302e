-- The lines so far are written.
use Rattle.std.proofs.Common.{◌≡◌, ◌++◌, take, flat_map}
use Rattle.listing_spec.specs.Printed.{field_line}
use Rattle.source_text.specs.Lines.{with_lf}
use Rattle.source_text.proofs.member.put_fields.Given as goal

abbrev pub invariant-loop-field : goal.invariant-loop-field
invariant-loop-field l = l.out.items ≡ l.initial.out.items ++ flat_map (λ f. with_lf (field_line f)) (take l.field-index l.fields)
