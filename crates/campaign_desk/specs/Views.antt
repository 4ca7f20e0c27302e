-- Defines a view of the table as a list of seats. The first view has all, and a worker's has one.
use Rattle.std.specs.Prelude.{◌≡◌, List, [], ◌∷◌, ◌++◌}
use Rattle.atomic_table.specs.Table.{Me}
use Rattle.atomic_table.specs.Seated.{TableId}
use Rattle.campaign_desk.specs.declared.knowledge.Knowledge.{Knowledge}
use Rattle.campaign_desk.specs.declared.knowledge.Terms.{Terms}
use Rattle.campaign_desk.specs.Knowledge.{first_knowledge, opening_seats}

-- Returns the view with which a table begins: a seat for each worker.
abbrev pub first_view : Terms → List Knowledge
first_view terms = opening_seats terms.jobs terms.workers

-- Returns the first seat of a view, as a view of its own.
abbrev pub first_seat : List Knowledge → List Knowledge
first_seat [] = []
first_seat (seat ∷ seats) = seat ∷ []

-- Returns the seats of a view after the first.
abbrev pub other_seats : List Knowledge → List Knowledge
other_seats [] = []
other_seats (seat ∷ seats) = seats

-- Returns the seats of another view followed by those of this one.
abbrev pub joined_seats : List Knowledge → List Knowledge → List Knowledge
joined_seats seats others = others ++ seats

-- Returns the seats of a view after another view took them: none.
abbrev pub no_seats : List Knowledge
no_seats = []

-- Returns the seats of all views.
abbrev pub seats_of : List (List Knowledge) → List Knowledge
seats_of [] = []
seats_of (view ∷ views) = view ++ seats_of views

-- Returns the seat of a view that has one.
abbrev pub seat_of : List Knowledge → Knowledge
seat_of [] = first_knowledge 0
seat_of (seat ∷ seats) = seat

-- Returns a pass with one seat. It holds no slot of the table.
abbrev pub one_seat : {S : Type 0} → Knowledge → Me S (List Knowledge)
one_seat seat = (seat ∷ [], [])

-- A pass has one seat, and holds no slot of the table.
abbrev pub HoldsOneSeat : {S : Type 0} → Me S (List Knowledge) → Type 0
HoldsOneSeat pass = pass ≡ one_seat (seat_of pass.0)

-- A pass is of this table, which has two words.
abbrev pub IsPassOf : TableId → TableId → Type 0
IsPassOf table pass = (pass ≡ table) × (table.words ≡ 2)
