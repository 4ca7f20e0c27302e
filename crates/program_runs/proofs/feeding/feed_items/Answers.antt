-- Nothing is at fault with the next item.
use Rattle.std.proofs.Common.{ap, ◌∙◌}
use Rattle.atom_graph.specs.Checking.{fault_of}
use Rattle.program_runs.proofs.Fed.{next_follows}
use Rattle.program_runs.proofs.feeding.feed_items.Goals as goal

pub feed-requires : goal.feed-requires
feed-requires c =
    ap (λ fed. fault_of fed c.item-item.result) c.loop-item.invariant
    ∙ next_follows c.args.checker.now c.args.items.now c.loop-item.item-index c.item-item.result c.requires c.loop-item-test.true c.item-item.is
