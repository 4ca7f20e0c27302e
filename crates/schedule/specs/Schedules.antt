-- The schedules, and the texts that spell them.
use Rattle.std.specs.Prelude.{◌≡◌, ℕ, ◌^◌, ◌<◌, ◌≤◌, ◌⊎◌, List, [], ◌∷◌, ◌++◌, codes}
use Rattle.std.specs.List.{All, AllZip, join_with_byte}
use Rattle.std.specs.Str.Parse.{IsNumeral, digits_value}
use Rattle.departures.specs.declared.departure.Departure.{Departure}

-- A schedule determines which threads take the turns of a run.
pub data Schedule : Type 0 where
  -- These threads, in order.
  Listed : List ℕ → Schedule
  -- Enabled threads one after another, each for this number of consecutive turns.
  RoundRobin : ℕ → Schedule
  -- Enabled threads, named by the random words of a generator with this state and this stream.
  Seeded : ℕ → ℕ → Schedule
  -- These departures, and the default everywhere else.
  Staying : List Departure → Schedule
  -- The enabled thread of the highest priority. A generator's state and stream, a depth and a number of turns determine
  -- the priorities and their changes.
  Ranked : ℕ → ℕ → ℕ → ℕ → Schedule

-- The text writes this number in decimal digits. Leading zeros are allowed.
abbrev pub WritesNumber : List ℕ → ℕ → Type 0
WritesNumber digits n = IsNumeral 10 digits × (digits_value 10 digits ≡ n)

-- The text writes the number of a thread, which is at most 4,294,967,295.
abbrev pub WritesThread : List ℕ → ℕ → Type 0
WritesThread digits thread = WritesNumber digits thread × (thread ≤ 4294967295)

-- The text writes these values, separated by commas. It is empty if there are none.
abbrev pub WritesList : {X : Type 0} → (List ℕ → X → Type 0) → List ℕ → List X → Type 0
WritesList Writes text values = (parts : List (List ℕ)) × AllZip Writes parts values × (text ≡ join_with_byte 44 parts)

-- The text writes these numbers of threads, separated by commas.
abbrev pub WritesThreads : List ℕ → List ℕ → Type 0
WritesThreads text threads = WritesList WritesThread text threads

-- The text writes a quantum: a number of consecutive turns, from 1 to 1,000,000.
abbrev pub WritesQuantum : List ℕ → ℕ → Type 0
WritesQuantum text quantum = WritesNumber text quantum × (1 ≤ quantum) × (quantum ≤ 1000000)

-- The text writes a generator's state and its stream, both below 2^64, separated by a colon.
abbrev pub WritesSeed : List ℕ → ℕ → ℕ → Type 0
WritesSeed text state stream =
    (first : List ℕ) × (second : List ℕ) × WritesNumber first state × WritesNumber second stream
    × (state < 2 ^ 64) × (stream < 2 ^ 64) × (text ≡ first ++ 58 ∷ second)

-- The text writes a departure: the number of turns before it, and its thread after an equals sign.
abbrev pub WritesDeparture : List ℕ → Departure → Type 0
WritesDeparture text d =
    (first : List ℕ) × (second : List ℕ) × WritesNumber first d.position × (d.position < 2 ^ 64)
    × WritesThread second d.thread × (text ≡ first ++ 61 ∷ second)

-- Each departure comes before all later ones of the list.
abbrev pub AreRising : List Departure → Type 0
AreRising [] = Unit {0}
AreRising (d ∷ ds) = All (λ later. d.position < later.position) ds × AreRising ds

-- The text writes departures at rising positions, separated by commas.
abbrev pub WritesDepartures : List ℕ → List Departure → Type 0
WritesDepartures text departures = WritesList WritesDeparture text departures × AreRising departures

-- The text writes a depth, from 1 to 64.
abbrev pub WritesDepth : List ℕ → ℕ → Type 0
WritesDepth text depth = WritesNumber text depth × (1 ≤ depth) × (depth ≤ 64)

-- The text writes a number of turns, from 1 to 2^32.
abbrev pub WritesTurns : List ℕ → ℕ → Type 0
WritesTurns text turns = WritesNumber text turns × (1 ≤ turns) × (turns ≤ 4294967296)

-- The text writes a depth and a number of turns, separated by a colon.
abbrev pub WritesChanges : List ℕ → ℕ → ℕ → Type 0
WritesChanges text depth turns =
    (first : List ℕ) × (second : List ℕ) × WritesDepth first depth × WritesTurns second turns × (text ≡ first ++ 58 ∷ second)

-- The text writes a generator's state and its stream, both below 2^64, a depth and a number of turns, separated by colons.
abbrev pub WritesRanking : List ℕ → ℕ → ℕ → ℕ → ℕ → Type 0
WritesRanking text state stream depth turns =
    (first : List ℕ) × (second : List ℕ) × (rest : List ℕ) × WritesNumber first state × WritesNumber second stream
    × (state < 2 ^ 64) × (stream < 2 ^ 64) × WritesChanges rest depth turns × (text ≡ first ++ 58 ∷ (second ++ 58 ∷ rest))

-- The text spells the schedule: `list:`, `rr:`, `seed:`, `stay:` or `pct:`, followed by its numbers.
abbrev pub Spells : List ℕ → Schedule → Type 0
Spells text (Listed threads) = (rest : List ℕ) × WritesThreads rest threads × (text ≡ codes "list:" ++ rest)
Spells text (RoundRobin quantum) = (rest : List ℕ) × WritesQuantum rest quantum × (text ≡ codes "rr:" ++ rest)
Spells text (Seeded state stream) = (rest : List ℕ) × WritesSeed rest state stream × (text ≡ codes "seed:" ++ rest)
Spells text (Staying departures) = (rest : List ℕ) × WritesDepartures rest departures × (text ≡ codes "stay:" ++ rest)
Spells text (Ranked state stream depth turns) =
    (rest : List ℕ) × WritesRanking rest state stream depth turns × (text ≡ codes "pct:" ++ rest)

-- The text spells a list or departures.
abbrev pub SpellsListOrDepartures : List ℕ → Type 0
SpellsListOrDepartures text = ((threads : List ℕ) × Spells text (Listed threads)) ⊎ ((departures : List Departure) × Spells text (Staying departures))
