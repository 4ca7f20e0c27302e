-- All items so far are labels.
use Rattle.std.proofs.Common.{◌≡◌, length}
use Rattle.jasmin.specs.Denote.{operations}
use Rattle.code_bytes.proofs.steps.next_operation.Given as goal

abbrev pub invariant-loop-rest : goal.invariant-loop-rest
invariant-loop-rest l = operations l.rest ≡ operations l.items

abbrev pub decreases-loop-rest : goal.decreases-loop-rest
decreases-loop-rest l = length l.rest
