-- The constants of the entries so far, and of those that are left.
use Rattle.std.proofs.Common.{◌≡◌, ◌++◌}
use Rattle.const_pool.specs.Interning.{pool_of}
use Rattle.const_pool.proofs.builder.PoolBuilder.into_constants.Given as goal

abbrev pub invariant-loop-entry : goal.invariant-loop-entry
invariant-loop-entry l = l.constants ++ pool_of l.entry-iterator ≡ pool_of l.fn.self
