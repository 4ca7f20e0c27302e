use Rattle.std.proofs.Common.{◌∙◌}
use Rattle.const_pool.proofs.Interned.{numbered_pool}
use Rattle.const_pool.proofs.builder.PoolBuilder.into_pool.Goals as goal

pub returns-clause-numbered : goal.returns-clause-numbered
returns-clause-numbered c = rw (c.of.ensures ∙ c.in_ok-constants.ensures.exact) (numbered_pool c.args.self)
