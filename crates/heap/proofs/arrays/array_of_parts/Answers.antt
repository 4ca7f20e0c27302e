use Rattle.heap.proofs.ArrayLaws.{parts_held}
use Rattle.heap.proofs.arrays.array_of_parts.Goals as goal

pub returns : goal.returns
returns c =
    parts_held c.args.first c.args.size c.args.count c.in_ok-class.class c.args.class.now c.in_ok-references.references c.in_ok-class.ensures c.in_ok-references.ensures c.requires.over c.requires.few c.requires.references
