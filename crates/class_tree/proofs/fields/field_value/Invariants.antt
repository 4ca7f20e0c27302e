use Rattle.std.proofs.Common.{◌≡◌, length}
use Rattle.listing_spec.specs.TreeOf.{field_value}
use Rattle.class_tree.proofs.fields.field_value.Given as goal

abbrev pub invariant-loop-rest : goal.invariant-loop-rest
invariant-loop-rest l = field_value l.texts l.rest ≡ field_value l.texts l.fn.attributes

abbrev pub decreases-loop-rest : goal.decreases-loop-rest
decreases-loop-rest l = length l.rest
