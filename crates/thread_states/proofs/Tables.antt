-- The entries of the search tree, as the tables of the definitions.
use Rattle.std.proofs.Common.{◌≡◌, ℕ, Bool, true, false, cond, List, Some, None, refl, sym, ap, ◌∙◌, arith, [], ◌∷◌}
use Rattle.std.specs.Prelude.{Option, ◌==◌, if◌then◌else◌}
use Rattle.std.specs.Map.{lookup}
use Rattle.std.specs.BTreeMap.{is_at}
use Rattle.std.specs.Ordering.{nat_cmp}
use Rattle.std.proofs.lemmas.Bool.Decides.{nat_tests}
use Rattle.velodrome.specs.Transactions.{ThreadState}
use Rattle.thread_states.specs.ThreadStates.{thread_state_in, no_thread_state}
use Rattle.thread_states.specs.Open.{Open}
use Rattle.thread_states.specs.Seen.{state_of, table_of, rooms_of, room_in}

abbrev pub Threads : Type 0
Threads = List (ℕ × Open)

abbrev pub found : ℕ → Threads → Option Open
found t threads = lookup (is_at (nat_cmp t)) threads

abbrev pub state_from : Option Open → ThreadState
state_from None = no_thread_state
state_from (Some o) = state_of o

abbrev pub room_from : Option Open → ℕ
room_from None = 0
room_from (Some o) = o.room

-- The order of the two compared threads doesn't matter.
at_is : (t u : ℕ) → is_at (nat_cmp t) u ≡ (u == t)
at_is t u = grind (arith, nat_tests)

at_here : (t u : ℕ) → is_at (nat_cmp t) u ≡ (t == u)
at_here t u = grind (arith, nat_tests)

state_chosen : (b : Bool) (o : Open) (rest : Option Open) → (if b then state_of o else state_from rest) ≡ state_from (cond b (Some o) rest)
state_chosen true o rest = refl
state_chosen false o rest = refl

room_chosen : (b : Bool) (o : Open) (rest : Option Open) → (if b then o.room else room_from rest) ≡ room_from (cond b (Some o) rest)
room_chosen true o rest = refl
room_chosen false o rest = refl

pub state_is : (t : ℕ) (threads : Threads) → thread_state_in (table_of threads) t ≡ state_from (found t threads)
state_is t [] = refl
state_is t (e ∷ threads) = rw (at_here t e.0, state_is t threads) (state_chosen (t == e.0) e.1 (found t threads))

pub room_is : (t : ℕ) (threads : Threads) → room_in (rooms_of threads) t ≡ room_from (found t threads)
room_is t [] = refl
room_is t (e ∷ threads) = rw (at_here t e.0, room_is t threads) (room_chosen (t == e.0) e.1 (found t threads))

-- The state of a thread is that of its entry.
pub state_found : (t : ℕ) (threads : Threads) (o : Option Open) → o ≡ found t threads → state_from o ≡ thread_state_in (table_of threads) t
state_found t threads o is = ap state_from is ∙ sym (state_is t threads)

pub room_found : (t : ℕ) (threads : Threads) (o : Option Open) → o ≡ found t threads → room_from o ≡ room_in (rooms_of threads) t
room_found t threads o is = ap room_from is ∙ sym (room_is t threads)

-- The state that was inserted for a thread is its state.
pub changed : (t u : ℕ) (o : Open) (old new : Threads) → found u new ≡ cond (is_at (nat_cmp t) u) (Some o) (found u old)
    → thread_state_in (table_of new) u ≡ (if u == t then state_of o else thread_state_in (table_of old) u)
changed t u o old new puts =
    state_is u new ∙ ap state_from puts ∙ ap (λ b. state_from (cond b (Some o) (found u old))) (at_is t u)
    ∙ sym (state_chosen (u == t) o (found u old)) ∙ ap (λ (k : ThreadState). if u == t then state_of o else k) (sym (state_is u old))
