use Rattle.std.proofs.Common.{refl}
use Rattle.heap.proofs.TextLaws.{one_less_left}
use Rattle.heap.proofs.heap.Heap.remove_last_texts.Goals as goal

pub loop-left-preserved : goal.loop-left-preserved
loop-left-preserved c =
    one_less_left c.args.self.now c.loop-left.self c.remove_last_text.new.self c.loop-left.left _ c.args.count c.loop-left.invariant c.loop-left-test.true refl c.remove_last_text.ensures
