-- The rest is paired exactly if all units are.
use Rattle.std.proofs.Common.{◌≡◌, length}
use Rattle.listing_spec.specs.Printable.{is_paired}
use Rattle.source_text.proofs.names.is_paired.Given as goal

abbrev pub invariant-loop-rest : goal.invariant-loop-rest
invariant-loop-rest l = is_paired l.rest ≡ is_paired l.units

abbrev pub decreases-loop-rest : goal.decreases-loop-rest
decreases-loop-rest l = length l.rest
