use Rattle.std.proofs.Common.{refl}
use Rattle.heap.proofs.ArrayLaws.{parts_more}
use Rattle.heap.proofs.arrays.part_references.Goals as goal

pub loop-part-preserved : goal.loop-part-preserved
loop-part-preserved c =
    parts_more c.args.first c.args.size c.loop-part.part c.loop-part.next _ c.loop-part.references.items c.push.new.self.items c.loop-part.invariant c.in_ok-push.ensures.items refl
