use Rattle.std.proofs.Common.{ap, ◌∙◌}
use Rattle.schedule.specs.Schedules.{Schedule, Spells, SpellsListOrDepartures}
use Rattle.schedule.specs.Choosers.{chooser_of_schedule}
use Rattle.schedule.proofs.Spelling.{handed_on, is_syntax, never_list, same_schedule}
use Rattle.schedule.proofs.chooser.Chooser.parse.Goals as goal

pub returns-in_err-rule-clause-syntax : goal.returns-in_err-rule-clause-syntax
returns-in_err-rule-clause-syntax c =
    is_syntax ((s : Schedule) → ¬ (Spells c.args.text.now s)) (SpellsListOrDepartures c.args.text.now)
    c.from_residual.result c.in_err-rule.field-0.0 (handed_on c.from_residual.result c.in_err-rule.field-0.0 c.from_residual.ensures)
    c.in_err-rule.ensures.syntax c.in_err-rule.ensures.memory (never_list c.args.text.now)

pub returns-clause-only : goal.returns-clause-only
returns-clause-only c =
    let own = c.in_ok-rule.ensures.rule in
    λ schedule spelled. own.2 ∙ ap chooser_of_schedule (same_schedule c.args.text.now own.0 schedule own.1 spelled)
