-- The parts so far are of this number of parts.
use Rattle.std.proofs.Common.{◌≡◌, All, take}
use Rattle.exploration_joins.proofs.alike.have_count.Given as goal

abbrev pub invariant-loop-part : goal.invariant-loop-part
invariant-loop-part l = All (λ part. part.part.count ≡ l.count) (take l.part-index l.parts)
