use Rattle.std.proofs.Common.{List, sym, subst}
use Rattle.accesses.specs.ByThread.{AreFound}
use Rattle.accesses.specs.declared.by_thread.Node.{Node}
use Rattle.accesses.proofs.by_thread.ByThread.reserve.Goals as goal

pub invariant_of-self : goal.invariant_of-self
invariant_of-self c = subst (λ (ns : List Node). AreFound ns) (sym c.reserve.ensures.items) c.self.invariant
