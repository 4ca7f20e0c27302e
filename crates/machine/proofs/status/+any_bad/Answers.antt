use Rattle.std.proofs.Common.{rules, ap, ◌∙◌}
use Rattle.jvms_machine.specs.Status.{is_bad}
use Rattle.machine.proofs.StatusLaws.{any_first, any_later}
use Rattle.machine.proofs.status.+any_bad.Goals as goal

pub returns-then-is_bad : goal.returns-then-is_bad
returns-then-is_bad t c =
    any_first is_bad c.args.parts.now c.args.t c.is_bad.result (search rules) (c.is_bad.ensures ∙ ap is_bad c.peek.ensures) (search rules)

pub returns-else-is_bad : goal.returns-else-is_bad
returns-else-is_bad t c =
    any_later is_bad c.args.parts.now c.args.t c.is_bad.result c.any_bad.result (search rules) (c.is_bad.ensures ∙ ap is_bad c.peek.ensures) (search rules) c.any_bad.ensures
