use Rattle.std.proofs.Common.{◌≡◌, [], drop}
use Rattle.const_pool.specs.Interning.{pool_of}
use Rattle.assembly.specs.Operands.{catches_onto}
use Rattle.assembler.proofs.catches.catches_of.Given as goal

abbrev pub invariant-loop-catch : goal.invariant-loop-catch
invariant-loop-catch l = catches_onto l.numbers (pool_of l.entries) (drop l.catch-index l.catches) ≡ catches_onto [] (pool_of l.fn.entries) l.catches
