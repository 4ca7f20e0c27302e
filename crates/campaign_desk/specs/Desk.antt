-- Defines what a contract sees of a desk and of a seat.
use Rattle.std.specs.Prelude.{◌≡◌, ℕ, ◌<◌, List, true, map, replicate}
use Rattle.atomic_table.specs.Seated.{TableId}
use Rattle.campaign_desk.specs.declared.knowledge.Knowledge.{Knowledge}
use Rattle.campaign_desk.specs.declared.knowledge.Terms.{Terms}
use Rattle.campaign_desk.specs.Knowledge.{first_knowledge}

-- A desk has a table, which no other desk has, a number of jobs, and a number of workers.
pub record DeskValue : Type 0 where
  pub table : TableId
  pub jobs : ℕ
  pub workers : ℕ

-- A seat takes its steps at a table, and knows what they returned.
pub record SeatValue : Type 0 where
  pub table : TableId
  pub knowledge : Knowledge

-- A seat is of this desk.
abbrev pub IsSeatOf : DeskValue → SeatValue → Type 0
IsSeatOf desk seat = (seat.table ≡ desk.table) × (seat.knowledge.jobs ≡ desk.jobs)

-- A seat of this desk has drawn these numbers, and no job is left.
abbrev pub HasDrawn : DeskValue → SeatValue → List ℕ → Type 0
HasDrawn desk seat numbers =
    IsSeatOf desk seat × (seat.knowledge.draws ≡ numbers) × (seat.knowledge.is_done ≡ true)

-- Returns the desk at a table.
abbrev pub desk_at : TableId → ℕ → ℕ → DeskValue
desk_at table jobs workers = record { table = table; jobs = jobs; workers = workers }

-- Returns the seat at a table that knows this.
abbrev pub seat_at : TableId → Knowledge → SeatValue
seat_at table knowledge = record { table = table; knowledge = knowledge }

-- Returns the seats at a table before their first steps.
abbrev pub new_seats : TableId → ℕ → ℕ → List SeatValue
new_seats table jobs workers = replicate workers (seat_at table (first_knowledge jobs))

-- Returns what each of these seats knows.
abbrev pub knowledge_of : List SeatValue → List Knowledge
knowledge_of seats = map (λ seat. seat.knowledge) seats

-- A table has two words and no slots, and was made for these numbers of jobs and workers.
abbrev pub IsTable : Terms → TableId → ℕ → ℕ → Type 0
IsTable terms table jobs workers =
    (terms.jobs ≡ jobs) × (terms.workers ≡ workers) × (table.words ≡ 2) × (table.slots ≡ 0)
    × (0 < workers)
