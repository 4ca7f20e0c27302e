-- Defines what contracts see of all threads.
use Rattle.std.specs.Prelude.{◌≡◌, ℕ, ◌<◌, ◌==◌, if◌then◌else◌, List, [], ◌∷◌, map}
use Rattle.velodrome.specs.Specification.{Specification, is_atomic}
use Rattle.velodrome.specs.Transactions.{ThreadState}
use Rattle.thread_states.specs.declared.open.OpenMethod.{OpenMethod}
use Rattle.thread_states.specs.Open.{Open, keys_of}

-- The lines of the specification, the state of each thread, and how many more methods it may enter before memory is
-- needed.
pub record Seen : Type 0 where
  pub lines : Specification
  pub table : List (ℕ × ThreadState)
  pub rooms : List (ℕ × ℕ)

abbrev pub state_of : Open → ThreadState
state_of o = record { methods = keys_of o.methods; transaction = o.transaction }

abbrev pub table_of : List (ℕ × Open) → List (ℕ × ThreadState)
table_of threads = map (λ e. (e.0, state_of e.1)) threads

abbrev pub rooms_of : List (ℕ × Open) → List (ℕ × ℕ)
rooms_of threads = map (λ e. (e.0, e.1.room)) threads

-- Returns the memory that is reserved for a thread. A thread without an entry has none.
abbrev pub room_in : List (ℕ × ℕ) → ℕ → ℕ
room_in [] t = 0
room_in (e ∷ es) t = if t == e.0 then e.1 else room_in es t

-- The next item of the thread needs no memory.
abbrev pub HasRoom : ℕ → Seen → Type 0
HasRoom t seen = 0 < room_in seen.rooms t

-- Each method is marked as atomic if the specification says so.
abbrev pub IsMarked : Specification → List OpenMethod → Type 0
IsMarked lines [] = Unit {0}
IsMarked lines (o ∷ methods) = (o.is_atomic ≡ is_atomic lines o.method) × IsMarked lines methods

abbrev pub AreMarked : Specification → List (ℕ × Open) → Type 0
AreMarked lines [] = Unit {0}
AreMarked lines (e ∷ threads) = IsMarked lines e.1.methods × AreMarked lines threads
