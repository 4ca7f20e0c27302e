use Rattle.std.proofs.Common.{◌≡◌, [], drop}
use Rattle.listing_spec.specs.TreeOf.{items_onto}
use Rattle.class_tree.proofs.code.items_of.Given as goal

abbrev pub invariant-loop-place : goal.invariant-loop-place
invariant-loop-place l = items_onto l.texts l.code l.items l.place (drop l.place l.starts) (drop l.place l.insns) ≡ items_onto l.texts l.code [] 0 l.code.layout.starts l.code.insns
