use Rattle.std.proofs.Common.{◌≡◌, ◌++◌, map, drop}
use Rattle.insn.proofs.code.bytes_of_insns.Given as goal

abbrev pub invariant-loop-one : goal.invariant-loop-one
invariant-loop-one l = l.pcs.items ++ map (λ x. x.pc) (drop l.one-index l.located) ≡ map (λ x. x.pc) l.located
