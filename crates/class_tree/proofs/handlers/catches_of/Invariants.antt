use Rattle.std.proofs.Common.{◌≡◌, take, map}
use Rattle.listing_spec.specs.TreeOf.{catch_of}
use Rattle.class_tree.proofs.handlers.catches_of.Given as goal

abbrev pub invariant-loop-handler : goal.invariant-loop-handler
invariant-loop-handler l = l.catches.items ≡ map (catch_of l.texts) (take l.handler-index l.handlers)
