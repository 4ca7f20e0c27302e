use Rattle.std.proofs.Common.{List, subst}
use Rattle.jvms_program.specs.MemberOrders.{AreDistinct}
use Rattle.jvms_program.proofs.MemberOrderLaws.{distinct}
use Rattle.jvms_program.proofs.members.Members.are_distinct.Goals as goal

pub returns : goal.returns
returns g c =
    λ rises.
    subst (λ (items : List g.row.T.Denot). AreDistinct g.T.Member.names items) c.self.view_is
    (distinct g.T.Member.names c.self.inside.items.items c.self.inside.order.items (c.self.invariant.1 rises) c.self.invariant.0)
