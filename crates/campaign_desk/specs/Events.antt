-- Defines what a desk does, as a list of events, each of one seat.
use Rattle.std.specs.Prelude.{ℕ, ◌+◌, List, if◌then◌else◌, min, set, fold}
use mathlib.Core.Option.{Option, some, none}
use lib.ListN.{get_elem?}
use Rattle.campaign_desk.specs.declared.knowledge.Knowledge.{Knowledge}
use Rattle.campaign_desk.specs.Knowledge.{opening_seats}
use Rattle.campaign_desk.specs.Knowledge.{after_look, after_draw, after_lower, after_bound}

-- The seat of a number looks at the next number, draws it, lowers the bound, or reads the bound.
pub data Event : Type 0 where
  Look : ℕ → Event
  Draw : ℕ → Event
  Lower : ℕ → ℕ → Event
  Bound : ℕ → Event

-- The next number to draw, the bound, and what each seat knows.
pub record DeskState : Type 0 where
  pub next : ℕ
  pub bound : ℕ
  pub seats : List Knowledge

-- Returns the state before the first event: nothing is drawn, and the bound is jobs.
abbrev pub first_state : ℕ → ℕ → DeskState
first_state jobs workers = record { next = 0; bound = jobs; seats = opening_seats jobs workers }

-- Returns the number of the seat that takes the step.
abbrev pub seat_number : Event → ℕ
seat_number (Look w) = w
seat_number (Draw w) = w
seat_number (Lower w number) = w
seat_number (Bound w) = w

-- Returns the state after a seat draws. A seat that is done doesn't draw.
abbrev pub with_draw : ℕ → Knowledge → DeskState → DeskState
with_draw w seat s =
    if seat.is_done
    then s
    else record s { next = s.next + 1; seats = set s.seats w (after_draw seat s.next) }

-- Returns the state after a seat lowers the bound by a number: it becomes the lesser of the two.
abbrev pub with_lower : ℕ → ℕ → Knowledge → DeskState → DeskState
with_lower w number seat s =
    record s { bound = min s.bound number; seats = set s.seats w (after_lower seat number) }

-- Returns the state after an event, by what its seat knows. Without that seat nothing changes.
abbrev pub effect : DeskState → Event → Option Knowledge → DeskState
effect s e none = s
effect s (Look w) (some seat) = record s { seats = set s.seats w (after_look seat s.next) }
effect s (Draw w) (some seat) = with_draw w seat s
effect s (Lower w number) (some seat) = with_lower w number seat s
effect s (Bound w) (some seat) = record s { seats = set s.seats w (after_bound seat s.bound) }

-- Returns the state after an event.
abbrev pub after : DeskState → Event → DeskState
after s e = effect s e (get_elem? s.seats (seat_number e))

-- Returns the state after a list of events.
abbrev pub after_all : DeskState → List Event → DeskState
after_all s events = fold after s events
