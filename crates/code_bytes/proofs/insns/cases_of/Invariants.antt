-- The cases so far, followed by the remaining ones, are all.
use Rattle.std.proofs.Common.{◌≡◌, ◌++◌, drop, map}
use Rattle.jasmin.specs.Denote.{switch_case}
use Rattle.code_bytes.proofs.insns.cases_of.Given as goal

abbrev pub invariant-loop-pair : goal.invariant-loop-pair
invariant-loop-pair l = l.cases ++ map (switch_case l.labels) (drop l.pair-index l.pairs) ≡ map (switch_case l.labels) l.pairs
