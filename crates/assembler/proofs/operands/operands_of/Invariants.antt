use Rattle.std.proofs.Common.{◌≡◌, [], drop}
use Rattle.const_pool.specs.Interning.{pool_of}
use Rattle.assembly.specs.Operands.{operands_onto}
use Rattle.assembler.proofs.operands.operands_of.Given as goal

abbrev pub invariant-loop-item : goal.invariant-loop-item
invariant-loop-item l = operands_onto l.numbers (pool_of l.entries) (drop l.item-index l.code) ≡ operands_onto [] (pool_of l.fn.entries) l.code
