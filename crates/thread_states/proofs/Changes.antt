-- The states before and after an item.
use Rattle.std.proofs.Common.{◌≡◌, ℕ, ◌<◌, Bool, true, false, cond, List, Some, None, refl, sym, ap, subst, ◌∙◌, arith}
use Rattle.std.specs.Prelude.{Option, IsSome, ◌==◌, if◌then◌else◌}
use Rattle.std.specs.BTreeMap.{BTreeMap, get_by, is_at, insert_entry, WritesThrough, Updates}
use Rattle.std.specs.Ordering.{nat_cmp}
use Rattle.std.proofs.lemmas.Bool.Decides.{nat_tests}
use Rattle.velodrome.specs.Specification.{Specification}
use Rattle.velodrome.specs.Transactions.{ThreadState}
use Rattle.thread_states.specs.ThreadStates.{thread_state_in, no_thread_state, IsChanged}
use Rattle.thread_states.specs.Open.{Open, IsRoomy}
use Rattle.thread_states.specs.declared.open.OpenMethod.{OpenMethod}
use Rattle.thread_states.specs.Seen.{Seen, state_of, table_of, rooms_of, room_in, HasRoom, IsMarked, AreMarked}
use Rattle.thread_states.proofs.Marks.{written_marked, inserted_marked}
use Rattle.thread_states.proofs.Tables.{Threads, found, state_from, room_from, state_found, room_found, changed}

abbrev pub kept : Specification → Threads → Seen
kept lines threads = record { lines = lines; table = table_of threads; rooms = rooms_of threads }

-- An answer about one thread's state is one about the table.
pub told : {X : Type 0} (f : Specification → ThreadState → X) (t : ℕ) (o : Option Open) (lines : Specification) (threads : Threads) (now : Seen)
    → kept lines threads ≡ now → o ≡ found t threads → f lines (state_from o) ≡ f now.lines (thread_state_in now.table t)
told f t o lines threads now view is =
    let P : Seen → Type 0 = λ s. f lines (state_from o) ≡ f s.lines (thread_state_in s.table t) in
    subst P view (ap (f lines) (state_found t threads o is))

pub room_told : (t : ℕ) (o : Option Open) (lines : Specification) (threads : Threads) (now : Seen)
    → kept lines threads ≡ now → o ≡ found t threads → HasRoom t now → 0 < room_from o
room_told t o lines threads now view is room =
    let P : Seen → Type 0 = λ s. HasRoom t s → 0 < room_from o in
    let Q : ℕ → Type 0 = λ n. 0 < n in
    subst P view (subst Q (sym (room_found t threads o is))) room

-- ---- Replacing the state of one thread

abbrev pub IsPut : ℕ → Open → Threads → Threads → Type 0
IsPut t o old new = (u : ℕ) → found u new ≡ cond (is_at (nat_cmp t) u) (Some o) (found u old)

pub is_written : (t : ℕ) (p o : Open) (old new : BTreeMap ℕ Open) → Some p ≡ get_by (nat_cmp t) old → WritesThrough nat_cmp (nat_cmp t) old o new
    → IsPut t o old.entries new.entries
is_written t p o old new is writes =
    let Q : Option Open → Type 0 = λ r. IsSome r in
    (writes.3 (subst Q is refl)).0

pub changes : (f : Specification → ThreadState → ThreadState) (t : ℕ) (before : Option Open) (o : Open) (lines : Specification) (old new : Threads) (now : Seen)
    → kept lines old ≡ now → before ≡ found t old → IsPut t o old new → state_of o ≡ f lines (state_from before)
    → IsChanged t (f now.lines (thread_state_in now.table t)) now.table (table_of new)
changes f t before o lines old new now view is put same =
    let P : Seen → Type 0 = λ s. IsChanged t (f s.lines (thread_state_in s.table t)) s.table (table_of new) in
    subst P view (λ u.
    changed t u o old new (put u)
    ∙ ap (λ (k : ThreadState). if u == t then k else thread_state_in (table_of old) u) (same ∙ ap (f lines) (state_found t old before is)))

same_place : (t u : ℕ) → (u == t) ≡ true → t ≡ u
same_place t u same = grind (arith, nat_tests)

pub same_at : (b : Bool) (t u : ℕ) (g : ℕ → ThreadState) → (u == t) ≡ b → (if b then g t else g u) ≡ g u
same_at true t u g tied = ap g (same_place t u tied)
same_at false t u g tied = refl

-- Nothing changes if the thread has no entry and the change leaves an empty state empty.
pub stays : (f : Specification → ThreadState → ThreadState) (t : ℕ) (lines : Specification) (old new : Threads) (now : Seen)
    → kept lines old ≡ now → new ≡ old → None ≡ found t old → f lines no_thread_state ≡ no_thread_state
    → IsChanged t (f now.lines (thread_state_in now.table t)) now.table (table_of new)
stays f t lines old new now view same none nothing =
    let P : Seen → Type 0 = λ s. IsChanged t (f s.lines (thread_state_in s.table t)) s.table (table_of new) in
    let is : no_thread_state ≡ thread_state_in (table_of old) t = state_found t old None none in
    subst P view (λ u.
    ap (λ (l : Threads). thread_state_in (table_of l) u) same
    ∙ sym (same_at (u == t) t u (thread_state_in (table_of old)) refl)
    ∙ ap (λ (k : ThreadState). if u == t then k else thread_state_in (table_of old) u) (sym is ∙ sym nothing ∙ ap (f lines) is))

-- The state of each thread is unchanged.
abbrev pub IsSame : List (ℕ × ThreadState) → List (ℕ × ThreadState) → Type 0
IsSame old new = (u : ℕ) → thread_state_in new u ≡ thread_state_in old u

pub nothing_changes : (t : ℕ) (before : Option Open) (o : Open) (lines : Specification) (old new : Threads) (now : Seen)
    → kept lines old ≡ now → before ≡ found t old → IsPut t o old new → state_of o ≡ state_from before
    → IsSame now.table (table_of new)
nothing_changes t before o lines old new now view is put same =
    λ u. changes (λ l k. k) t before o lines old new now view is put same u ∙ same_at (u == t) t u (thread_state_in now.table) refl

-- ---- Marks and reserved memory

pub marked_after : (t : ℕ) (o : Open) (lines : Specification) (old new : BTreeMap ℕ Open) → WritesThrough nat_cmp (nat_cmp t) old o new
    → IsMarked lines o.methods → AreMarked lines old.entries → AreMarked lines new.entries
marked_after t o lines old new writes marked all =
    let P : Threads → Type 0 = λ l. AreMarked lines l in
    subst P (sym writes.0) (written_marked lines (is_at (nat_cmp t)) old.entries o marked all)

here : (t : ℕ) → is_at (nat_cmp t) t ≡ true
here t = grind (arith, nat_tests)

pub room_after : (t : ℕ) (o : Open) (old new : Threads) → IsPut t o old new → o.room ≡ room_in (rooms_of new) t
room_after t o old new put =
    room_found t new (Some o) (sym (put t ∙ ap (λ b. cond b (Some o) (found t old)) (here t)))

not_less : 0 < room_from None → ⊥
not_less less = omega arith

-- A thread without an entry has no memory reserved.
pub no_room : (t : ℕ) (lines : Specification) (threads : Threads) (now : Seen) → kept lines threads ≡ now → None ≡ found t threads → HasRoom t now → ⊥
no_room t lines threads now view none room = not_less (room_told t None lines threads now view none room)

-- ---- A thread's first entry

pub is_inserted : (t : ℕ) (o : Open) (old lent new : BTreeMap ℕ Open) → lent ≡ old → Updates nat_cmp lent new t (Some o) → IsPut t o old.entries new.entries
is_inserted t o old lent new same updates =
    let P : BTreeMap ℕ Open → Type 0 = λ m. IsPut t o m.entries new.entries in
    subst P same updates.0

pub first_marked : (t : ℕ) (o : Open) (lines : Specification) (old lent new : BTreeMap ℕ Open) → lent ≡ old
    → new.entries ≡ insert_entry nat_cmp lent.entries t o → IsRoomy o → AreMarked lines old.entries → AreMarked lines new.entries
first_marked t o lines old lent new same put roomy all =
    let P : Threads → Type 0 = λ l. AreMarked lines l in
    let Q : BTreeMap ℕ Open → Type 0 = λ m. AreMarked lines m.entries in
    let R : List OpenMethod → Type 0 = λ ms. IsMarked lines ms in
    subst P (sym put) (inserted_marked nat_cmp lines lent.entries t o (subst R (sym roomy.0) tt) (subst Q (sym same) all))
