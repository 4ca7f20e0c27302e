use Rattle.std.proofs.Common.{◌≡◌, [], drop}
use Rattle.const_pool.specs.Interning.{pool_of}
use Rattle.assembly.specs.Assembled.{methods_onto}
use Rattle.assembler.proofs.methods.methods_of.Given as goal

abbrev pub invariant-loop-method : goal.invariant-loop-method
invariant-loop-method l = methods_onto l.infos (pool_of l.entries) (drop l.method-index l.methods) ≡ methods_onto [] (pool_of l.fn.entries) l.methods
