-- The answers of a campaign's book.
use Rattle.std.proofs.Common.{◌≡◌, List, ◌∙◌, subst}
use Rattle.std.specs.Prelude.{Result}
use Rattle.jvms_program.specs.declared.program.Class.{Class}
use Rattle.campaign_jobs.specs.declared.plan.Plan.{Plan}
use Rattle.campaign_book.specs.declared.fault.StoreFault.{StoreFault}
use Rattle.campaign_book.specs.declared.row.Row.{Row}
use Rattle.campaign_book.specs.Books.{BookView, IsBook}
use Rattle.campaign_book.specs.Rows.{IsStoring}
use Rattle.campaign.specs.Shares.{IsAnswer}

-- A book of this program and this plan stores a row, or refuses it.
pub is_answer : (program : List Class) (plan : Plan) (old new : BookView) (row : Row) (answer : Result (Unit {0}) StoreFault)
    → old.program ≡ program → old.plan ≡ plan → new.program ≡ old.program → new.plan ≡ old.plan
    → IsBook old.program old.plan old.rows → IsBook new.program new.plan new.rows → IsStoring old.plan old.rows row answer new.rows
    → IsAnswer program plan row answer
is_answer program plan old new row answer p q p' q' was is stores =
    let was_of = subst (λ x. IsBook x plan old.rows) p (subst (λ x. IsBook old.program x old.rows) q was) in
    let is_of = subst (λ x. IsBook x plan new.rows) (p' ∙ p) (subst (λ x. IsBook new.program x new.rows) (q' ∙ q) is) in
    (old.rows, new.rows, was_of, is_of, subst (λ x. IsStoring x old.rows row answer new.rows) q stores)
