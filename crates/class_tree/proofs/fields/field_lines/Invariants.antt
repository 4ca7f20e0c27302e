use Rattle.std.proofs.Common.{◌≡◌, length}
use Rattle.jvms_file.specs.Results.{results_of}
use Rattle.listing_spec.specs.TreeOf.{field_line}
use Rattle.class_tree.proofs.Collected.{with_items}
use Rattle.class_tree.proofs.fields.field_lines.Given as goal

abbrev pub invariant-loop-rest : goal.invariant-loop-rest
invariant-loop-rest l = with_items l.lines (results_of (field_line l.texts) l.rest) ≡ results_of (field_line l.texts) l.fn.infos

abbrev pub decreases-loop-rest : goal.decreases-loop-rest
decreases-loop-rest l = length l.rest
