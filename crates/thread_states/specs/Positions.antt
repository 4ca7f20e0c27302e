-- Defines what the next event of a thread belongs to (Velodrome, section 3).
use Rattle.std.specs.Prelude.{◌≡◌}
use Rattle.velodrome.specs.Specification.{Specification}
use Rattle.velodrome.specs.Transactions.{ThreadState, has_atomic}
use Rattle.thread_states.specs.declared.position.ThreadPosition.{ThreadPosition}

-- The position has the transaction that the thread is in, and whether one of its open methods is atomic.
pub record IsPosition (s : ThreadPosition) (lines : Specification) (state : ThreadState) : Type 0 where
  pub transaction : s.transaction ≡ state.transaction
  pub is_in_atomic : s.is_in_atomic ≡ has_atomic lines state.methods
