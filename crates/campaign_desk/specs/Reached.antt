-- Defines what holds between any two steps: a list of events leads to the words and to all views.
use Rattle.std.specs.Prelude.{◌≡◌, ℕ, List, [], ◌∷◌}
use Rattle.std.specs.List.{sum_by}
use Rattle.atomic_table.specs.Table.{State}
use Rattle.campaign_desk.specs.declared.knowledge.Knowledge.{Knowledge}
use Rattle.campaign_desk.specs.declared.knowledge.Terms.{Terms}
use Rattle.campaign_desk.specs.Limits.{FitsLimits}
use Rattle.campaign_desk.specs.Views.{seats_of}
use Rattle.campaign_desk.specs.Facts.{IsDesk}
use Rattle.campaign_desk.specs.Events.{Event, first_state, after_all}

-- Two lists have the same seats, in some order.
abbrev pub SameSeats : List Knowledge → List Knowledge → Type 0
SameSeats seats others = (f : Knowledge → ℕ) → sum_by f seats ≡ sum_by f others

-- These events lead to this next number, this bound and these seats.
abbrev pub LeadTo : ℕ → ℕ → ℕ → ℕ → List Knowledge → List Event → Type 0
LeadTo jobs workers next bound seats events =
    let s = after_all (first_state jobs workers) events in
    (s.next ≡ next) × (s.bound ≡ bound) × SameSeats s.seats seats

-- Within the limits, some list of events leads to this next number, this bound and these seats.
abbrev pub IsReached : ℕ → ℕ → ℕ → ℕ → List Knowledge → Type 0
IsReached jobs workers next bound seats =
    FitsLimits jobs workers × ((events : List Event) × LeadTo jobs workers next bound seats events)

-- Some list of events leads to the words of a table and to the seats of all its views.
abbrev pub IsReachedTable : {S : Type 0} → Terms → State S (List Knowledge) → Type 0
IsReachedTable terms table =
    (next : ℕ) × (bound : ℕ) × (table.words ≡ next ∷ bound ∷ [])
    × IsReached terms.jobs terms.workers next bound (seats_of table.views)

-- These events lead to words and lists that are consistent with each other.
abbrev pub LeadToDesk : ℕ → ℕ → List Event → Type 0
LeadToDesk jobs workers events =
    let s = after_all (first_state jobs workers) events in
    IsDesk jobs workers s.next s.bound s.seats
