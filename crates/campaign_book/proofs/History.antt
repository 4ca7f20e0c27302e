-- A book with one more row.
use Rattle.std.proofs.Common.{◌≡◌, List, [], ◌∷◌, ◌++◌, cond, None, sym, subst, append_assoc}
use Rattle.std.proofs.lemmas.List.Elements.{All-push}
use Rattle.std.proofs.lemmas.List.{append-nil, length-append}
use Rattle.std.proofs.lemmas.List.Sums.{sum_by_push}
use Rattle.jvms_program.specs.declared.program.Class.{Class}
use Rattle.campaign_jobs.specs.declared.plan.Plan.{Plan}
use Rattle.campaign_book.specs.declared.row.Row.{Row}
use Rattle.campaign_book.specs.declared.entry.BookEntry.{BookEntry}
use Rattle.campaign_book.specs.declared.entry.BookEntry.TheVariants as entry
use Rattle.campaign_book.specs.Rows.{is_done, is_cycle, refusal, Replays, IsRight, with_row}
use Rattle.campaign_book.specs.Books.{totals_of, IsBook}
use Rattle.campaign_book.specs.Entries.{row_of, IsEntryOf}

pub replays_push : (plan : Plan) (past rows : List Row) (row : Row) → Replays plan past rows → refusal plan (past ++ rows) row ≡ None → Replays plan past (rows ++ row ∷ [])
replays_push plan past [] row r new = (subst (λ rs. refusal plan rs row ≡ None) (append-nil past) new, tt)
replays_push plan past (x ∷ xs) row r new = (r.0, replays_push plan (past ++ x ∷ []) xs row r.1 (subst (λ rs. refusal plan rs row ≡ None) (sym (append_assoc past (x ∷ []) xs)) new))

pub totals_push : (rows : List Row) (row : Row) → totals_of (rows ++ row ∷ []) ≡ with_row (totals_of rows) row
totals_push rows row =
    let a = length-append rows (row ∷ []) in
    let b = sum_by_push (λ r. cond (is_done r) 1 0) rows row in
    let c = sum_by_push (λ r. cond (is_cycle r) 1 0) rows row in
    λ i. record { rows = a i; done = b i; cycles = c i }

right_of : (program : List Class) (plan : Plan) (e : BookEntry) → IsEntryOf program plan e → IsRight program plan (row_of e)
right_of program plan (entry.Done report) is = rw (sym is.0, sym is.1) report.right
right_of program plan (entry.Skipped number because) is = tt

pub book_push : (program : List Class) (plan : Plan) (rows : List Row) (e : BookEntry) → IsEntryOf program plan e → refusal plan rows (row_of e) ≡ None → IsBook program plan rows → IsBook program plan (rows ++ row_of e ∷ [])
book_push program plan rows e is new b = record { right = All-push (IsRight program plan) rows (row_of e) b.right (right_of program plan e is); replays = replays_push plan [] rows (row_of e) b.replays new }
