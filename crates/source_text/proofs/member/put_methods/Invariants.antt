-- The lines so far are written.
use Rattle.std.proofs.Common.{◌≡◌, ◌++◌, take, flat_map}
use Rattle.listing_spec.specs.Printed.{method_text}
use Rattle.source_text.specs.Lines.{text_of_lines}
use Rattle.source_text.proofs.member.put_methods.Given as goal

abbrev pub invariant-loop-method : goal.invariant-loop-method
invariant-loop-method l = l.out.items ≡ l.initial.out.items ++ flat_map (λ m. text_of_lines (method_text m)) (take l.method-index l.methods)
