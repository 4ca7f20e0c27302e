use Rattle.atom_graph.proofs.Feeding.{entered_right}
use Rattle.atom_graph.proofs.checker.Checker.enter.Goals as goal

pub invariant_of-self-2 : goal.invariant_of-self-2
invariant_of-self-2 c =
    entered_right c.self.inside.trace c.prepare.new.self c.self.inside.watch c.self.invariant c.prepare.ensures.same c.entered.new.self c.args.thread c.args.method.now c.in_ok-key.key
    c.args.item.now c.in_ok-copy.copy c.requires c.in_ok-key.ensures c.in_ok-copy.ensures.room.0 c.entered.ensures
