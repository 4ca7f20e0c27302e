use Rattle.std.proofs.Common.{Some, sym, ap, ◌∙◌}
use Rattle.program.proofs.FirstTextLaws.{one_added}
use Rattle.program.proofs.tables.first_texts.add_text.Goals as goal

pub returns-in_ok-insert-in-Some-clause-texts : goal.returns-in_ok-insert-in-Some-clause-texts
returns-in_ok-insert-in-Some-clause-texts c = λ before are.
    one_added before c.args.field.now c.as_slice.result c.args.texts.now c.insert.new.self (sym c.in-Some.ensures ∙ ap (λ l. Some l) (sym c.as_slice.ensures)) c.in_ok-insert-in-Some.ensures.updates.0 are
