use Rattle.std.proofs.Common.{◌≡◌, length}
use Rattle.jvms_file.specs.Results.{results_of}
use Rattle.listing_spec.specs.TreeOf.{method_lines}
use Rattle.class_tree.proofs.Collected.{with_items}
use Rattle.class_tree.proofs.methods.all_method_lines.Given as goal

abbrev pub invariant-loop-rest : goal.invariant-loop-rest
invariant-loop-rest l = with_items l.methods (results_of (method_lines l.texts) l.rest) ≡ results_of (method_lines l.texts) l.fn.infos

abbrev pub decreases-loop-rest : goal.decreases-loop-rest
decreases-loop-rest l = length l.rest
