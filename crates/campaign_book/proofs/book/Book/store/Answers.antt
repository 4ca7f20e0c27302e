use Rattle.std.proofs.Common.{◌≡◌, [], ◌∷◌, ◌++◌, None, sym, ap, ◌∙◌, subst}
use Rattle.campaign_book.specs.Rows.{refusal, with_row}
use Rattle.campaign_book.specs.Books.{BookView, IsBook, totals_of}
use Rattle.campaign_book.specs.Entries.{row_of, IsEntryOf}
use Rattle.campaign_book.proofs.History.{book_push, totals_push}
use Rattle.campaign_book.proofs.book.Book.store.Goals as goal

pub invariant_of-self-2 : goal.invariant_of-self-2
invariant_of-self-2 c =
    let rows = c.self.inside.rows in
    let row = row_of c.args.entry in
    let items : c.push.new.self ≡ rows ++ row ∷ [] = c.in-Ok.ensures.ok ∙ ap (λ r. rows ++ r ∷ []) c.row-row.ensures in
    let new : refusal c.self.inside.plan.now rows row ≡ None = ap (refusal c.self.inside.plan.now rows) (sym c.row-row.ensures) ∙ sym c.refusal.ensures ∙ c.in_default.is in
    let of = subst (λ (b : BookView). IsEntryOf b.program b.plan c.args.entry) (sym c.self.view_is) c.requires in (
      subst (IsBook c.self.inside.program.now c.self.inside.plan.now) (sym items) (book_push _ _ rows c.args.entry of new c.self.invariant.0),
      c.with_row-self-inside.ensures ∙ (λ i. with_row (c.self.invariant.1 i) (c.row-row.ensures i)) ∙ sym (totals_push rows row) ∙ ap totals_of (sym items),
    )

pub returns-clause-is : goal.returns-clause-is
returns-clause-is c = (invariant_of-self-2 c).0
