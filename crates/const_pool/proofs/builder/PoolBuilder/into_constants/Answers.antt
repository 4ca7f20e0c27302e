use Rattle.std.proofs.Common.{◌≡◌, rules}
use Rattle.const_pool.specs.Interning.{pool_of}
use Rattle.const_pool.proofs.Interned.{few_numbers}
use Rattle.const_pool.proofs.builder.PoolBuilder.into_constants.Goals as goal

pub returns-clause-few : goal.returns-clause-few
returns-clause-few c =
    let all : c.loop-entry.constants ≡ pool_of c.args.self = search rules in
    rw all (few_numbers c.args.self _ c.self.view_is c.self.invariant.few)
