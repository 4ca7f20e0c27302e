-- Each list of events leads to words and lists that are consistent with each other.
use Rattle.std.proofs.Common.{◌≡◌, ℕ, ◌+◌, min, List, [], ◌∷◌, set, Bool, true, false, cond, refl, inl, arith}
use Rattle.std.proofs.lemmas.Bool.Decides.{nat_tests}
use Rattle.std.proofs.lemmas.List.Folds.{sum_by-replicate}
use Rattle.std.proofs.lemmas.List.Elements.{All-replicate}
use Rattle.std.proofs.lemmas.List.{length-replicate}
use mathlib.Core.Option.{Option, some, none}
use lib.ListN.{get_elem?}
use Rattle.campaign_desk.specs.declared.knowledge.Knowledge.{Knowledge}
use Rattle.campaign_desk.specs.Knowledge.{first_knowledge, opening_seats, after_draw}
use Rattle.campaign_desk.specs.Facts.{count_of, once_below, draw_count, lowering_count, bound_count, IsDesk}
use Rattle.campaign_desk.specs.Events.{Event, Look, Draw, Lower, Bound, DeskState, first_state, seat_number, effect, after, after_all}
use Rattle.campaign_desk.specs.Reached.{LeadToDesk}
use Rattle.campaign_desk.proofs.FactLaws.{one_if_done, look_keeps, draw_keeps, lower_keeps, bound_keeps}

-- the facts hold before the first event
starts : (jobs workers : ℕ) → IsDesk jobs workers 0 jobs (opening_seats jobs workers)
starts jobs workers =
    record {
      all_seats = length-replicate workers (first_knowledge jobs);
      same_jobs = All-replicate (λ (v : Knowledge). v.jobs ≡ jobs) workers (first_knowledge jobs) refl;
      draws = λ x. none_drawn x (draw_count x seats) (omega (arith, sum_by-replicate (λ u. count_of x u.draws) workers (first_knowledge jobs)));
      next_limit = omega arith;
      done = λ h. absurd (omega (arith, sum_by-replicate one_if_done workers (first_knowledge jobs)));
      bound_limit = omega arith;
      bound_is = inl refl;
      bound_least = λ x h. no_lowering x;
      bounds_are = λ x h. absurd (omega (arith, no_bound x));
      bounds_least = λ x h. no_bound x;
    }
  where
    seats : List Knowledge
    seats = opening_seats jobs workers

    none_drawn : (x all : ℕ) → all ≡ 0 → all ≡ once_below x (min 0 jobs)
    none_drawn x all is = grind (arith, nat_tests)

    no_lowering : (x : ℕ) → lowering_count x seats ≡ 0
    no_lowering x = omega (arith, sum_by-replicate (λ u. count_of x u.lowerings) workers (first_knowledge jobs))

    no_bound : (x : ℕ) → bound_count x seats ≡ 0
    no_bound x = omega (arith, sum_by-replicate (λ u. count_of x u.bounds) workers (first_knowledge jobs))

-- the facts hold of a state
abbrev Keeps : ℕ → ℕ → DeskState → Type 0
Keeps jobs workers s = IsDesk jobs workers s.next s.bound s.seats

event_keeps : (jobs workers : ℕ) (s : DeskState) (e : Event) → Keeps jobs workers s → (seat : Option Knowledge) → get_elem? s.seats (seat_number e) ≡ seat → Keeps jobs workers (effect s e seat)
event_keeps jobs workers s e d none at = d
event_keeps jobs workers s (Look w) d (some v) at = look_keeps jobs workers s.next s.bound s.seats w v d at
event_keeps jobs workers s (Draw w) d (some v) at = by v.is_done refl
  where
    by : (b : Bool) → v.is_done ≡ b → Keeps jobs workers (cond b s (record s { next = s.next + 1; seats = set s.seats w (after_draw v s.next) }))
    by true e = d
    by false e = draw_keeps jobs workers s.next s.bound s.seats w v d at e
event_keeps jobs workers s (Lower w k) d (some v) at = lower_keeps jobs workers s.next s.bound s.seats w v d at k
event_keeps jobs workers s (Bound w) d (some v) at = bound_keeps jobs workers s.next s.bound s.seats w v d at

events_keep : (jobs workers : ℕ) (es : List Event) (s : DeskState) → Keeps jobs workers s → Keeps jobs workers (after_all s es)
events_keep jobs workers [] s d = d
events_keep jobs workers (e ∷ es) s d = events_keep jobs workers es (after s e) (event_keeps jobs workers s e d (get_elem? s.seats (seat_number e)) refl)

pub each_leads_to_desk : (jobs workers : ℕ) (es : List Event) → LeadToDesk jobs workers es
each_leads_to_desk jobs workers es = events_keep jobs workers es (first_state jobs workers) (starts jobs workers)
