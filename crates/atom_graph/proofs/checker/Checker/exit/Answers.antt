use Rattle.atom_graph.proofs.Checked.{checker_same}
use Rattle.atom_graph.proofs.Feeding.{exit_may_close, exited_right}
use Rattle.atom_graph.proofs.checker.Checker.exit.Goals as goal

pub leave-requires : goal.leave-requires
leave-requires c = exit_may_close c.self.inside.trace c.prepare_exit.new.self c.self.inside.watch c.self.invariant c.prepare_exit.ensures.same c.args.thread c.over-over.result c.over-over.ensures

pub invariant_of-self-in_err-leave : goal.invariant_of-self-in_err-leave
invariant_of-self-in_err-leave c = checker_same c.self.inside.trace c.prepare_exit.new.self c.self.inside.watch c.leave.new.self c.self.invariant c.prepare_exit.ensures.same c.in_err-leave.ensures.err

pub invariant_of-self-2 : goal.invariant_of-self-2
invariant_of-self-2 c =
    exited_right c.self.inside.trace c.prepare_exit.new.self c.self.inside.watch c.self.invariant c.prepare_exit.ensures.same c.exited.new.self c.leave.new.self c.args.thread c.args.method.now
    c.args.item.now c.in_ok-copy.copy c.over-over.result c.requires c.in_ok-copy.ensures.room.0 c.over-over.ensures c.in_ok-leave.ensures.ok c.exited.ensures
