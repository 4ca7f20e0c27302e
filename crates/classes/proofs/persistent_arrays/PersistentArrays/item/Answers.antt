use Rattle.std.proofs.Common.{ℕ, ◌+◌, ◌-◌, ◌/◌, ◌%◌, List, sym, ap, ◌∙◌}
use Rattle.classes.specs.PersistentArrays.{child, item_at}
use Rattle.classes.proofs.PersistentArrayLaws.{no_level, one_down}
use Rattle.classes.proofs.persistent_arrays.PersistentArrays.item.Goals as goal

pub loop-level-preserved : goal.loop-level-preserved
loop-level-preserved c =
    let nodes = c.args.self.now.nodes.items in
    let at = c.loop-level.at in
    let left = c.loop-level.left in
    ap (λ a. item_at nodes (c.args.self.now.levels - (c.loop-level._level + 1)) a (left / 4)) (c.child-at.ensures ∙ ap (λ (ns : List (List ℕ)). child ns at (left % 4)) c.as_slice.ensures.value)
    ∙ one_down nodes c.args.self.now.levels c.loop-level._level at left c.loop-level-test.true
    ∙ c.loop-level.invariant

pub returns : goal.returns
returns c =
    sym (no_level c.args.self.now.nodes.items c.args.self.now.levels c.loop-level._level c.loop-level.at c.loop-level.left c.loop-level-test.false) ∙ c.loop-level.invariant
