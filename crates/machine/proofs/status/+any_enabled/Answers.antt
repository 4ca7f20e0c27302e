use Rattle.std.proofs.Common.{rules, ap, ◌∙◌}
use Rattle.jvms_machine.specs.Status.{is_enabled}
use Rattle.machine.proofs.StatusLaws.{any_first, any_later}
use Rattle.machine.proofs.status.+any_enabled.Goals as goal

pub returns-then-is_enabled : goal.returns-then-is_enabled
returns-then-is_enabled t c =
    any_first is_enabled c.args.parts.now c.args.t c.is_enabled.result (search rules) (c.is_enabled.ensures ∙ ap is_enabled c.peek.ensures) (search rules)

pub returns-else-is_enabled : goal.returns-else-is_enabled
returns-else-is_enabled t c =
    any_later is_enabled c.args.parts.now c.args.t c.is_enabled.result c.any_enabled.result (search rules) (c.is_enabled.ensures ∙ ap is_enabled c.peek.ensures) (search rules) c.any_enabled.ensures
