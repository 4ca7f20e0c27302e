-- Each event keeps a state of the campaign.
use Rattle.std.proofs.Common.{◌≡◌, zero, suc, List, [], ◌∷◌, All, Option, Some, None, refl, sym, subst, arith}
use Rattle.std.proofs.lemmas.List.Elements.{All-push}
use Rattle.jvms_program.specs.declared.program.Class.{Class}
use Rattle.campaign_jobs.specs.declared.plan.Plan.{Plan}
use Rattle.campaign_book.specs.declared.row.Row.{Row}
use Rattle.campaign_book.specs.declared.fault.StoreFault.{StoreFault}
use Rattle.campaign_book.specs.Rows.{refusal, IsRight}
use Rattle.campaign_book.specs.Books.{IsBook}
use Rattle.campaign_book.proofs.History.{replays_push}
use Rattle.campaign_desk.specs.Events as desk
use Rattle.campaign_desk.specs.Facts.{IsDesk}
use Rattle.campaign_desk.proofs.EventLaws as laws
use Rattle.campaign.specs.Whole.{Event, Step, Store, Whole, rows_after, after, after_all, first_state, EventsKeep, IsEvent}

-- The steps at the desk among events.
abbrev steps_of : List Event → List desk.Event
steps_of [] = []
steps_of (Step e ∷ events) = e ∷ steps_of events
steps_of (Store row ∷ events) = steps_of events

-- The desk is the one after these steps.
desk_is : (plan : Plan) (s : Whole) (events : List Event) → (after_all plan s events).desk ≡ desk.after_all s.desk (steps_of events)
desk_is plan s [] = refl
desk_is plan s (Step e ∷ events) = desk_is plan (after plan s (Step e)) events
desk_is plan s (Store row ∷ events) = desk_is plan (after plan s (Store row)) events

tail_all : {A : Type 0} (P : A → Type 0) (x : A) (xs : List A) → All P (x ∷ xs) → All P xs
tail_all P x xs all k d h = all (suc k) d (omega arith)

head_all : {A : Type 0} (P : A → Type 0) (x : A) (xs : List A) → All P (x ∷ xs) → P x
head_all P x xs all = all zero x (omega arith)

book_after : (program : List Class) (plan : Plan) (rows : List Row) (row : Row) (r : Option StoreFault) → refusal plan rows row ≡ r → IsRight program plan row → IsBook program plan rows → IsBook program plan (rows_after r rows row)
book_after program plan rows row None new right is =
    record { right = All-push (IsRight program plan) rows row is.right right; replays = replays_push plan [] rows row is.replays new }
book_after program plan rows row (Some fault) new right is = is

books : (program : List Class) (plan : Plan) (s : Whole) (events : List Event) → All (IsEvent program plan) events → IsBook program plan s.rows → IsBook program plan (after_all plan s events).rows
books program plan s [] all is = is
books program plan s (Step e ∷ events) all is =
    books program plan (after plan s (Step e)) events (tail_all (IsEvent program plan) (Step e) events all) is
books program plan s (Store row ∷ events) all is =
    books program plan (after plan s (Store row)) events (tail_all (IsEvent program plan) (Store row) events all)
    (book_after program plan s.rows row (refusal plan s.rows row) refl (head_all (IsEvent program plan) (Store row) events all) is)

pub events_keep : EventsKeep
events_keep program plan workers events all = (
  subst (λ (d : desk.DeskState). IsDesk plan.jobs workers d.next d.bound d.seats) (sym (desk_is plan (first_state plan workers) events))
      (laws.each_leads_to_desk plan.jobs workers (steps_of events)),
  books program plan (first_state plan workers) events all (record { right = λ k d h. absurd (omega arith); replays = tt }),
)
