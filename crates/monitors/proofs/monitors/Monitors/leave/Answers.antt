use Rattle.std.proofs.Common.{ap, ◌∙◌}
use Rattle.jvms_machine.specs.declared.state.Hold.{Hold}
use Rattle.jvms_machine.specs.Monitors.{left_monitor}
use Rattle.monitors.proofs.HoldLaws.{leaves_at_last, leaves_once}
use Rattle.monitors.proofs.monitors.Monitors.leave.Goals as goal

pub returns-then-hold-eq1 : goal.returns-then-hold-eq1
returns-then-hold-eq1 c =
    let hold = c.in-Some.hold.now in
    leaves_at_last c.args.reference c.self.inside.holds.entries (c.get_mut.follows.lender hold).entries c.remove.new.self.entries hold
    c.in-Some.ensures.value (c.get_mut.follows.holds hold).0 c.remove.ensures.entries c.if-hold-eq1.true
    ∙ ap (left_monitor c.args.reference) c.self.view_is

pub returns-else-hold-eq1 : goal.returns-else-hold-eq1
returns-else-hold-eq1 c =
    let hold = c.in-Some.hold.now in
    let count = c.saturating_sub-hold.result in
    let lower : Hold = record { owner = hold.owner; count = count } in
    leaves_once c.args.reference c.self.inside.holds.entries (c.get_mut.follows.lender lower).entries hold count
    c.get_mut.ensures.ordered c.in-Some.ensures.value (c.get_mut.follows.holds lower).0 c.saturating_sub-hold.ensures c.if-hold-eq1.false
    ∙ ap (left_monitor c.args.reference) c.self.view_is
