-- Defines what one seat knows, and what each kind of step adds to it.
use Rattle.std.specs.Prelude.{ℕ, ◌≤◌, All, List, [], ◌∷◌, ◌++◌, replicate}
use Rattle.std.specs.Prelude.{true, false, if◌then◌else◌, nat_lt}
use Rattle.campaign_desk.specs.declared.knowledge.Knowledge.{Knowledge}

-- Returns what a seat knows before its first step.
abbrev pub first_knowledge : ℕ → Knowledge
first_knowledge jobs =
    record { jobs = jobs; draws = []; lowerings = []; bounds = []; is_done = false }

-- Returns what each seat knows as a desk opens.
abbrev pub opening_seats : ℕ → ℕ → List Knowledge
opening_seats jobs workers = replicate workers (first_knowledge jobs)

-- Adds that no job is left.
abbrev pub after_done : Knowledge → Knowledge
after_done seat = record seat { is_done = true }

-- Adds a look at the next number: no job is left unless it is a job's.
abbrev pub after_look : Knowledge → ℕ → Knowledge
after_look seat next = if nat_lt next seat.jobs then seat else after_done seat

-- Adds a draw of the next number: the seat has it if it is a job's, else no job is left.
abbrev pub after_draw : Knowledge → ℕ → Knowledge
after_draw seat next =
    if nat_lt next seat.jobs
    then record seat { draws = seat.draws ++ next ∷ [] }
    else after_done seat

-- Adds that the seat lowered the bound to a number.
abbrev pub after_lower : Knowledge → ℕ → Knowledge
after_lower seat number = record seat { lowerings = seat.lowerings ++ number ∷ [] }

-- Adds that the seat read this bound.
abbrev pub after_bound : Knowledge → ℕ → Knowledge
after_bound seat bound = record seat { bounds = seat.bounds ++ bound ∷ [] }

-- The number is at most the number of jobs, each number to which the seat lowered the bound, and each bound that it
-- read.
abbrev pub IsLeastFor : Knowledge → ℕ → Type 0
IsLeastFor seat n =
    (n ≤ seat.jobs) × All (λ x. n ≤ x) seat.lowerings × All (λ x. n ≤ x) seat.bounds
