use Rattle.pool_entries.proofs.Units.{are_units}
use Rattle.pool_entries.proofs.entries.Entries.text.Goals as goal

pub constant-requires-clause-proper : goal.constant-requires-clause-proper
constant-requires-clause-proper c =
    rw (c.in_ok-text.ensures.items_if_clones_equal (λ x y same. same)) (are_units c.args.units.now c.type_inv.units)
