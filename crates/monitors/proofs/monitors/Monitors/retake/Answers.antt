use Rattle.std.proofs.Common.{ap, ◌∙◌}
use Rattle.jvms_machine.specs.Waiting.{retaken_monitor}
use Rattle.monitors.proofs.HoldLaws.{retakes}
use Rattle.monitors.proofs.monitors.Monitors.retake.Goals as goal

pub returns-clause-ok : goal.returns-clause-ok
returns-clause-ok c =
    retakes c.args.thread c.args.wait c.self.inside.holds.entries c.insert.new.self.entries c.in_ok-insert.ensures.entries
    ∙ ap (retaken_monitor c.args.thread c.args.wait) c.self.view_is
