-- The words so far, followed by those of the rest of the table, are all.
use Rattle.std.proofs.Common.{◌≡◌, ◌++◌, length, map}
use Rattle.listing_spec.specs.Printed.{access_names}
use Rattle.source_text.specs.Words.{units_in}
use Rattle.source_text.proofs.access.push_words.Given as goal

abbrev pub invariant-loop-rest : goal.invariant-loop-rest
invariant-loop-rest l =
    map units_in l.words.items ++ access_names (map (λ w. (w.0.now, w.1)) l.rest) l.access
    ≡ map units_in l.fn.words.items ++ access_names (map (λ w. (w.0.now, w.1)) l.table) l.access

abbrev pub decreases-loop-rest : goal.decreases-loop-rest
decreases-loop-rest l = length l.rest
