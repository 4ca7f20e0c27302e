use Rattle.std.proofs.Common.{◌-◌}
use Rattle.classes.proofs.UnionLaws.{AreUnions}
use Rattle.classes.proofs.persistent_arrays.+union.Given as goal

abbrev pub decreases-union : goal.decreases-union
decreases-union l = l.levels

-- The children so far are unions.
abbrev pub invariant-loop-digit : goal.invariant-loop-digit
invariant-loop-digit l = AreUnions l.fn.nodes.items l.nodes.items (l.levels - 1) l.low l.high l.node l.digit
