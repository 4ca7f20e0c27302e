-- The bytes of the pairs so far are written.
use Rattle.std.proofs.Common.{◌≡◌, ◌++◌, take, flat_map}
use Rattle.code_bytes.specs.Writing.{pair_bytes}
use Rattle.code_bytes.proofs.switches.write_pairs.Given as goal

abbrev pub invariant-loop-pair : goal.invariant-loop-pair
invariant-loop-pair l = l.out.items ≡ l.initial.out.items ++ flat_map (pair_bytes l.starts l.labels l.pc) (take l.pair-index l.pairs)
