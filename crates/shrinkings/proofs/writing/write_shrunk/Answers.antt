use Rattle.std.proofs.Common.{Err, ap, ◌≡◌}
use Rattle.std.specs.Prelude.{IsErrOf}
use Rattle.shrinkings.proofs.writing.write_shrunk.Goals as goal

-- The fault is the same, whatever else could be returned.
same_fault : {X Y E : Type 0} (e f : E) → IsErrOf {T = X} (Err e) f → IsErrOf {T = Y} (Err e) f
same_fault e f is = let same : e ≡ f = cc in ap (λ x. Err x) same

-- The run is the one whose text was begun.
pub returns-in-Err-clause-beginning : goal.returns-in-Err-clause-beginning
returns-in-Err-clause-beginning g c =
    λ is. (c.in_ok-shrunk.shrunk, c.in_ok-shrunk.ensures.shrunk, c.in-Err.ensures.beginning (same_fault c.in-Err.fault _ is))
