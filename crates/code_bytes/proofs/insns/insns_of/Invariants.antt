-- The instructions so far, followed by the remaining ones, are all.
use Rattle.std.proofs.Common.{◌≡◌, ◌++◌, length}
use Rattle.jasmin.specs.Denote.{operations}
use Rattle.assembly.specs.CodeOf.{insns_from}
use Rattle.code_bytes.proofs.insns.insns_of.Given as goal

abbrev pub invariant-loop-numbers : goal.invariant-loop-numbers
invariant-loop-numbers l = l.insns ++ insns_from l.labels l.numbers (operations l.rest) ≡ insns_from l.labels l.operands (operations l.items)

abbrev pub decreases-loop-numbers : goal.decreases-loop-numbers
decreases-loop-numbers l = length l.numbers
