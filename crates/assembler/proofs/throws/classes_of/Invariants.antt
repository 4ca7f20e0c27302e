use Rattle.std.proofs.Common.{◌≡◌, [], drop}
use Rattle.const_pool.specs.Interning.{pool_of}
use Rattle.assembly.specs.Operands.{classes_onto}
use Rattle.assembler.proofs.throws.classes_of.Given as goal

abbrev pub invariant-loop-name : goal.invariant-loop-name
invariant-loop-name l = classes_onto l.numbers (pool_of l.entries) (drop l.name-index l.names) ≡ classes_onto [] (pool_of l.fn.entries) l.names
