use Rattle.std.proofs.Common.{◌∙◌}
use Rattle.const_pool.proofs.Interned.{found_number, number_named}
use Rattle.const_pool.proofs.builder.PoolBuilder.number.Goals as goal

pub returns-clause-exact : goal.returns-clause-exact
returns-clause-exact c =
    c.copied.ensures ∙ c.get.ensures.value
    ∙ found_number c.self.inside.numbers.entries c.args.self.now c.args.entry.now c.self.invariant.in_order c.self.view_is

pub returns-clause-names : goal.returns-clause-names
returns-clause-names c = number_named c.args.self.now c.args.entry.now c.copied.result (returns-clause-exact c)
