-- The targets so far, followed by the remaining ones, are all.
use Rattle.std.proofs.Common.{◌≡◌, ◌++◌, drop, map}
use Rattle.jasmin.specs.Denote.{target}
use Rattle.code_bytes.proofs.insns.targets_of.Given as goal

abbrev pub invariant-loop-name : goal.invariant-loop-name
invariant-loop-name l = l.targets ++ map (target l.labels) (drop l.name-index l.names) ≡ map (target l.labels) l.names
