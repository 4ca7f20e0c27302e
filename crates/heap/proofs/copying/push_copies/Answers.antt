use Rattle.heap.proofs.CopyLaws.{kept_more, shown_more}
use Rattle.heap.proofs.copying.push_copies.Goals as goal

pub loop-object-preserved : goal.loop-object-preserved
loop-object-preserved c =
    let program = c.args.program.now in (
      shown_more program c.args.objects.now c.loop-object.copies.items c.push.new.self.items c.loop-object.object-index c.object-item.result c.in_ok-copy.field-0 c.loop-object-test.true c.object-item.is c.in_ok-push.ensures.items
          _ c.loop-object.invariant.0 (c.in_ok-copy.ensures.shown program),
      kept_more program c.args.objects.now c.loop-object.copies.items c.push.new.self.items c.loop-object.object-index c.object-item.result c.in_ok-copy.field-0 c.loop-object-test.true c.object-item.is c.in_ok-push.ensures.items
          c.requires.objects c.loop-object.invariant.1 (c.in_ok-copy.ensures.kept program),
    )
