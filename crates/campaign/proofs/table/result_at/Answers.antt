-- A number that the table needs isn't skipped, and the book's result for it is right.
use Rattle.std.proofs.Common.{Some, sym, ap, ◌∙◌}
use Rattle.campaign_book.proofs.Found.{done_right}
use Rattle.campaign.proofs.TableLaws.{not_skipped}
use Rattle.campaign.proofs.table.result_at.Goals as goal

pub unreachable-requires : goal.unreachable-requires
unreachable-requires c =
    let book = rw (c.requires.program, c.requires.plan) at c.find.ensures.kept in
    not_skipped c.args.program.now c.args.plan.now c.args.book.now.rows c.args.number c.in-Some-Skipped.field-0-0 c.in-Some-Skipped.field-0-1 book
    (sym c.find.ensures.row ∙ c.in-Some-Skipped.is ∙ ap Some c.in-Some-Skipped.field-0-is) c.requires.needed

pub returns-in-Some-Done-clause-right : goal.returns-in-Some-Done-clause-right
returns-in-Some-Done-clause-right c =
    let book = rw (c.requires.program, c.requires.plan) at c.find.ensures.kept in
    rw c.in-Some-Done.result-is
    (done_right c.args.program.now c.args.plan.now c.args.number c.args.book.now.rows c.in-Some-Done.field-0-0 c.in-Some-Done.result book
    (sym c.find.ensures.row ∙ c.in-Some-Done.is ∙ ap Some c.in-Some-Done.field-0-is))
