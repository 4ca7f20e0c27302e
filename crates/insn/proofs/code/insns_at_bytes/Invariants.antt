use Rattle.std.proofs.Common.{length}
use Rattle.insn.specs.Locating.{all_placed}
use Rattle.insn.proofs.Placing.{IsReading}
use Rattle.insn.proofs.code.insns_at_bytes.Given as goal

abbrev pub invariant-loop-rest : goal.invariant-loop-rest
invariant-loop-rest l = IsReading l.pool l.major l.bytes (all_placed l.found.items) l.rest

abbrev pub decreases-loop-rest : goal.decreases-loop-rest
decreases-loop-rest l = length l.rest
