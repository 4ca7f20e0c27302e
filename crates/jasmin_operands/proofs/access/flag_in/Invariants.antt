use Rattle.std.proofs.Common.{◌≡◌, length, map}
use Rattle.jasmin.specs.Operands.{flag_of}
use Rattle.jasmin_operands.proofs.access.flag_in.Given as goal

abbrev pub invariant-loop-rest : goal.invariant-loop-rest
invariant-loop-rest l = flag_of (map (λ w. (w.0.now, w.1)) l.rest) l.word ≡ flag_of (map (λ w. (w.0.now, w.1)) l.table) l.word

abbrev pub decreases-loop-rest : goal.decreases-loop-rest
decreases-loop-rest l = length l.rest
