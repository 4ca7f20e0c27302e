-- A thread's position, and how an event changes it.
use Rattle.std.proofs.Common.{◌≡◌, ℕ, ◌<◌, Bool, true, false, List, Some, None, refl, sym, ap, subst, ◌∙◌}
use Rattle.std.specs.Prelude.{Option, IfSome, is_some, ◌==◌, if◌then◌else◌}
use Rattle.velodrome.specs.Specification.{Specification}
use Rattle.velodrome.specs.Transactions.{ThreadState, has_atomic}
use Rattle.thread_states.specs.declared.position.ThreadPosition.{ThreadPosition}
use Rattle.thread_states.specs.ThreadStates.{thread_state_in, IsChanged}
use Rattle.thread_states.specs.Open.{Open, any_atomic}
use Rattle.thread_states.specs.Seen.{Seen, HasRoom, IsMarked}
use Rattle.thread_states.specs.Positions.{IsPosition}
use Rattle.thread_states.proofs.Changes.{kept, told, same_at}
use Rattle.thread_states.proofs.Marks.{any_is}
use Rattle.thread_states.proofs.Steps.{thread_state, happened}
use Rattle.thread_states.proofs.Tables.{Threads, found, room_found}

pub position_told : (s : ThreadPosition) (t : ℕ) (o : Open) (lines : Specification) (threads : Threads) (now : Seen)
    → s.transaction ≡ o.transaction → s.is_in_atomic ≡ any_atomic o.methods → IsMarked lines o.methods
    → kept lines threads ≡ now → Some o ≡ found t threads → IsPosition s now.lines (thread_state_in now.table t)
position_told s t o lines threads now transaction atomic marked view is = record {
  transaction = transaction ∙ told (λ l (k : ThreadState). k.transaction) t (Some o) lines threads now view is;
  is_in_atomic = atomic ∙ any_is lines o.methods marked ∙ told (λ l (k : ThreadState). has_atomic l k.methods) t (Some o) lines threads now view is;
}

pub room_here : (t : ℕ) (o : Open) (lines : Specification) (threads : Threads) (now : Seen) → kept lines threads ≡ now → Some o ≡ found t threads
    → 0 < o.room → HasRoom t now
room_here t o lines threads now view is room =
    let P : Seen → Type 0 = λ s. HasRoom t s in
    let Q : ℕ → Type 0 = λ n. 0 < n in
    subst P view (subst Q (room_found t threads (Some o) is) room)

pub ready_told : (r : Option ThreadPosition) (t : ℕ) (o : Open) (lines : Specification) (threads : Threads) (now : Seen)
    → IsMarked lines o.methods → kept lines threads ≡ now → Some o ≡ found t threads
    → IfSome r (λ s. (s.transaction ≡ o.transaction) × (s.is_in_atomic ≡ any_atomic o.methods) × (0 < o.room))
    → IfSome r (λ s. IsPosition s now.lines (thread_state_in now.table t) × HasRoom t now)
ready_told None t o lines threads now marked view is ready = tt
ready_told (Some s) t o lines threads now marked view is ready =
    (position_told s t o lines threads now ready.0 ready.1 marked view is, room_here t o lines threads now view is ready.2)

-- ---- An event leaves the position unchanged

stays_by : (b : Bool) (o : Option ℕ) (n : ℕ) → b ≡ is_some o → IfSome o (λ t. n ≡ t) → (if b then Some n else None) ≡ o
stays_by true None n is same = cc
stays_by true (Some t) n is same = ap Some same
stays_by false None n is same = refl
stays_by false (Some t) n is same = cc

same_state : (s : ThreadPosition) (n : ℕ) (lines : Specification) (k : ThreadState) → IsPosition s lines k → s.is_in_atomic ≡ is_some s.transaction
    → IfSome s.transaction (λ t. n ≡ t) → happened n lines k ≡ k
same_state s n lines k is stays same =
    ap (thread_state k.methods)
    (ap (λ b. if b then Some n else None) (sym is.is_in_atomic) ∙ stays_by s.is_in_atomic s.transaction n stays same ∙ is.transaction)

pub unchanged : (s : ThreadPosition) (n t : ℕ) (lines : Specification) (table : List (ℕ × ThreadState)) → IsPosition s lines (thread_state_in table t)
    → s.is_in_atomic ≡ is_some s.transaction → IfSome s.transaction (λ u. n ≡ u) → IsChanged t (happened n lines (thread_state_in table t)) table table
unchanged s n t lines table is stays same =
    λ u. sym (same_at (u == t) t u (thread_state_in table) refl)
    ∙ ap (λ (k : ThreadState). if u == t then k else thread_state_in table u) (sym (same_state s n lines (thread_state_in table t) is stays same))
