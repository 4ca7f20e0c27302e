-- The lines so far are written.
use Rattle.std.proofs.Common.{◌≡◌, ◌++◌, [], ◌∷◌, take, flat_map}
use Rattle.listing_spec.specs.Printed.{switch_line}
use Rattle.source_text.specs.Lines.{with_lf}
use Rattle.source_text.proofs.code.put_labels.Given as goal

abbrev pub invariant-loop-label : goal.invariant-loop-label
invariant-loop-label l = l.out.items ≡ l.initial.out.items ++ flat_map (λ label. with_lf (switch_line (label ∷ []))) (take l.label-index l.labels)
