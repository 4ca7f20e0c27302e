use Rattle.machine_text.specs.Objects.{element_line}
use Rattle.machine_text.specs.Parts.{elements_at}
use Rattle.machine_text.proofs.Rests.{one_more_numbered}
use Rattle.machine_text.proofs.object.put_elements.Goals as goal

pub loop-index-preserved : goal.loop-index-preserved
loop-index-preserved c =
    one_more_numbered element_line (elements_at c.args.machine.now c.args.reference) c.loop-index.index _ _ _
    c.in_ok-put_element.ensures
    c.loop-index.invariant
