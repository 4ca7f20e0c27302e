use Rattle.std.proofs.Common.{◌≡◌, take, map}
use Rattle.listing_spec.specs.TreeOf.{label_of}
use Rattle.class_tree.proofs.labels.labels_of.Given as goal

abbrev pub invariant-loop-target : goal.invariant-loop-target
invariant-loop-target l = l.labels.items ≡ map label_of (take l.target-index l.targets)
