-- The transaction of the next event of a thread, by the thread's position.
use Rattle.std.proofs.Common.{◌≡◌, ℕ, ap, ◌∙◌}
use Rattle.std.specs.Prelude.{Option, None, Some, IfSome}
use Rattle.velodrome.specs.Specification.{Specification}
use Rattle.velodrome.specs.Transactions.{ThreadState, has_atomic, next_transaction}
use Rattle.thread_states.specs.Positions.{IsPosition}
use Rattle.thread_states.specs.declared.position.ThreadPosition.{ThreadPosition}
use Rattle.atom_graph.specs.declared.stay.Stay.{Stay}
use Rattle.atom_graph.specs.StoredTrace.{stay_of}

-- It is the one that the thread is in, if it is in one.
pub goes_on : (o : Option ℕ) (n begun : ℕ) → n ≡ next_transaction o begun → IfSome o (λ t. n ≡ t)
goes_on None n begun is = tt
goes_on (Some t) n begun is = is

module _ (s : ThreadPosition) (lines : Specification) (k : ThreadState) (is : IsPosition s lines k) where
  pub next_is : (n begun : ℕ) → n ≡ next_transaction s.transaction begun → n ≡ next_transaction k.transaction begun
  next_is n begun next = next ∙ ap (λ (o : Option ℕ). next_transaction o begun) is.transaction

  pub stay_is : (stay : Stay) → stay ≡ stay_of s.transaction s.is_in_atomic → stay ≡ stay_of k.transaction (has_atomic lines k.methods)
  stay_is stay of = of ∙ ap (λ (o : Option ℕ). stay_of o s.is_in_atomic) is.transaction ∙ ap (stay_of k.transaction) is.is_in_atomic
