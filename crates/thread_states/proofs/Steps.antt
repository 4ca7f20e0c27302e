-- The state of one thread after an item.
use Rattle.std.proofs.Common.{◌≡◌, ℕ, List, [], ◌∷◌, drop, Some, None, refl, ap, ◌∙◌}
use Rattle.std.specs.Prelude.{Option, if◌then◌else◌}
use Rattle.jvms_program.specs.declared.key.MethodKey.{MethodKey}
use Rattle.velodrome.specs.Specification.{Specification}
use Rattle.velodrome.specs.Transactions.{ThreadState, with_entry, with_exit, has_atomic}
use Rattle.thread_states.specs.declared.open.OpenMethod.{OpenMethod}
use Rattle.thread_states.specs.Open.{Open, any_atomic, keys_of, IsRoomy}
use Rattle.thread_states.specs.ThreadStates.{no_thread_state}
use Rattle.thread_states.specs.Seen.{state_of, IsMarked}
use Rattle.thread_states.proofs.Marks.{any_is, any_left_is}

abbrev pub thread_state : List MethodKey → Option ℕ → ThreadState
thread_state methods transaction = record { methods = methods; transaction = transaction }

abbrev pub happened : ℕ → Specification → ThreadState → ThreadState
happened n lines k = record k { transaction = if has_atomic lines k.methods then Some n else None }

pub as_before : (p o : Open) → o.methods ≡ p.methods → o.transaction ≡ p.transaction → state_of o ≡ state_of p
as_before p o methods transaction = ap (λ ms. thread_state (keys_of ms) o.transaction) methods ∙ ap (thread_state (keys_of p.methods)) transaction

pub at_first : (o : Open) → IsRoomy o → state_of o ≡ no_thread_state
at_first o roomy = ap (λ ms. thread_state (keys_of ms) o.transaction) roomy.0 ∙ ap (thread_state []) roomy.1

pub after_enter : (m : MethodKey) (p o : Open) (new : OpenMethod) → new.method ≡ m → o.methods ≡ new ∷ p.methods → o.transaction ≡ p.transaction
    → state_of o ≡ with_entry m (state_of p)
after_enter m p o new key methods transaction =
    ap (λ ms. thread_state (keys_of ms) o.transaction) methods ∙ ap (λ k. thread_state (k ∷ keys_of p.methods) o.transaction) key
    ∙ ap (thread_state (m ∷ keys_of p.methods)) transaction

keys_left : (methods : List OpenMethod) → keys_of (drop 1 methods) ≡ drop 1 (keys_of methods)
keys_left [] = refl
keys_left (o ∷ methods) = refl

pub after_exit : (lines : Specification) (p o : Open) → IsMarked lines p.methods → o.methods ≡ drop 1 p.methods
    → o.transaction ≡ (if any_atomic (drop 1 p.methods) then p.transaction else None) → state_of o ≡ with_exit lines (state_of p)
after_exit lines p o marked methods transaction =
    ap (λ ms. thread_state (keys_of ms) o.transaction) methods ∙ ap (λ ks. thread_state ks o.transaction) (keys_left p.methods)
    ∙ ap (thread_state (drop 1 (keys_of p.methods))) (transaction ∙ ap (λ b. if b then p.transaction else None) (any_left_is lines p.methods marked))

pub after_event : (n : ℕ) (lines : Specification) (p o : Open) → IsMarked lines p.methods → o.methods ≡ p.methods
    → o.transaction ≡ (if any_atomic p.methods then Some n else None) → state_of o ≡ happened n lines (state_of p)
after_event n lines p o marked methods transaction =
    ap (λ ms. thread_state (keys_of ms) o.transaction) methods
    ∙ ap (thread_state (keys_of p.methods)) (transaction ∙ ap (λ b. if b then Some n else None) (any_is lines p.methods marked))
