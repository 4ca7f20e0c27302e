-- One zero is written in each iteration.
use Rattle.std.proofs.Common.{◌≡◌, ◌++◌, replicate}
use Rattle.code_bytes.proofs.switches.write_pads.Given as goal

abbrev pub invariant-loop : goal.invariant-loop
invariant-loop l = l.out.items ≡ l.initial.out.items ++ replicate l.counter 0
