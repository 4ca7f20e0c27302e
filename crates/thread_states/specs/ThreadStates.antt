-- Defines the open methods and the transaction of each thread as a table by thread (Velodrome, section 3).
use Rattle.std.specs.Prelude.{◌≡◌, ℕ, ◌==◌, if◌then◌else◌, List, [], ◌∷◌, None}
use Rattle.velodrome.specs.Transactions.{ThreadState}

-- Returns the state of a thread without an entry: it has no method open.
abbrev pub no_thread_state : ThreadState
no_thread_state = record { methods = []; transaction = None }

abbrev pub thread_state_in : List (ℕ × ThreadState) → ℕ → ThreadState
thread_state_in [] t = no_thread_state
thread_state_in (e ∷ es) t = if t == e.0 then e.1 else thread_state_in es t

-- The state of thread t is replaced, and all others are unchanged.
abbrev pub IsChanged : ℕ → ThreadState → List (ℕ × ThreadState) → List (ℕ × ThreadState) → Type 0
IsChanged t state old new = (u : ℕ) → thread_state_in new u ≡ (if u == t then state else thread_state_in old u)
