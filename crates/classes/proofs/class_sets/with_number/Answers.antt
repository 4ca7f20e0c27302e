use Rattle.classes.proofs.SetLaws.{with_number}
use Rattle.classes.proofs.class_sets.with_number.Goals as goal

pub returns-clause-numbers : goal.returns-clause-numbers
returns-clause-numbers c =
    with_number c.with_item.result c.args.arrays.now.nodes.items c.with_item.new.self.nodes.items c.args.arrays.now.levels c.args.root c.args.number c.item.result
    c.item.ensures c.with_item.ensures.items
