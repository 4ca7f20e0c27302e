use Rattle.std.proofs.Common.{◌≡◌, take, map}
use Rattle.listing_spec.specs.TreeOf.{match_of}
use Rattle.class_tree.proofs.switches.matches_of.Given as goal

abbrev pub invariant-loop-case : goal.invariant-loop-case
invariant-loop-case l = l.lines.items ≡ map match_of (take l.case-index l.cases)
