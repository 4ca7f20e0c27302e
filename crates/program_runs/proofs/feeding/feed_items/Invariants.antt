-- The checker was fed the items before the index.
use Rattle.std.proofs.Common.{◌≡◌, take}
use Rattle.program_runs.specs.Judgements.{with_items}
use Rattle.program_runs.proofs.feeding.feed_items.Given as goal

abbrev pub invariant-loop-item : goal.invariant-loop-item
invariant-loop-item l = l.checker ≡ with_items (take l.item-index l.items) l.fn.checker
