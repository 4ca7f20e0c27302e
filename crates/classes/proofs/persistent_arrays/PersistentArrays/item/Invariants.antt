use Rattle.std.proofs.Common.{◌≡◌, ◌-◌}
use Rattle.classes.specs.PersistentArrays.{item_at}
use Rattle.classes.proofs.persistent_arrays.PersistentArrays.item.Given as goal

-- The item is the one below the node that is reached.
abbrev pub invariant-loop-level : goal.invariant-loop-level
invariant-loop-level l =
    item_at l.self.nodes.items (l.self.levels - l._level) l.at l.left ≡ item_at l.self.nodes.items l.self.levels l.root l.index
