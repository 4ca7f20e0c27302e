-- Defines the state of a trace as the checker stores it, and how an item changes it (Velodrome, section 3).
use Rattle.std.specs.Prelude.{◌≡◌, ℕ, ◌<◌, Bool, if◌then◌else◌, [], ◌∷◌, ◌++◌, drop, map, Option, Some, None, vec_len, vec_capacity}
use Rattle.jvms_program.specs.declared.key.MethodKey.{MethodKey}
use Rattle.jvms_machine.specs.declared.trace.Item.{Item}
use Rattle.velodrome.specs.Specification.{Specification}
use Rattle.velodrome.specs.Transactions.{ThreadState, TraceState, transactions_after, with_entry, with_exit, has_atomic}
use Rattle.thread_states.specs.ThreadStates.{IsChanged, thread_state_in}
use Rattle.thread_states.specs.Seen.{HasRoom}
use Rattle.atom_graph.specs.declared.stay.Stay.{Stay}
use Rattle.atom_graph.specs.declared.stay.Stay.TheVariants as stay
use Rattle.atom_graph.specs.declared.stored_trace.StoredTrace.{StoredTrace}
use Rattle.atom_graph.specs.Checking.{Fed}

abbrev pub fed_of : StoredTrace → Fed
fed_of a = record { lines = a.threads.lines; items = a.items.items }

-- The stored state is that of trace state w.
pub record HasTraceState (w : TraceState) (a : StoredTrace) : Type 0 where
  pub threads : (t : ℕ) → thread_state_in a.threads.table t ≡ w.threads t
  pub transactions : map (λ e. e.transaction) w.events ≡ a.transactions.items
  pub begun : a.begun ≡ w.transactions

-- The stored state is unchanged.
pub record IsSame (old new : StoredTrace) : Type 0 where
  pub lines : new.threads.lines ≡ old.threads.lines
  pub threads : (t : ℕ) → thread_state_in new.threads.table t ≡ thread_state_in old.threads.table t
  pub items : new.items.items ≡ old.items.items
  pub transactions : new.transactions.items ≡ old.transactions.items
  pub begun : new.begun ≡ old.begun

-- An item of the thread needs no memory.
pub record HasRoomFor (thread : ℕ) (a : StoredTrace) : Type 0 where
  pub threads : HasRoom thread a.threads
  pub items : vec_len a.items < vec_capacity a.items
  pub transactions : vec_len a.transactions < vec_capacity a.transactions

-- Decides whether a thread's next event begins a transaction, or continues the one that it is in.
abbrev pub stay_of : Option ℕ → Bool → Stay
stay_of None is_open = stay.Begins is_open
stay_of (Some t) is_open = stay.KeepsGoing

-- Returns the transaction that ends with the exit of a thread's innermost method.
abbrev pub ending_transaction : Specification → ThreadState → Option ℕ
ending_transaction lines state = if has_atomic lines (drop 1 state.methods) then None else state.transaction

-- Returns the state of a thread after an event.
abbrev pub thread_state_after : Specification → ℕ → ThreadState → ThreadState
thread_state_after lines n state = record state { transaction = if has_atomic lines state.methods then Some n else None }

-- An event was recorded.
pub record IsHappened (thread n : ℕ) (i : Item) (old new : StoredTrace) : Type 0 where
  pub lines : new.threads.lines ≡ old.threads.lines
  pub threads : IsChanged thread (thread_state_after old.threads.lines n (thread_state_in old.threads.table thread)) old.threads.table new.threads.table
  pub items : new.items.items ≡ old.items.items ++ i ∷ []
  pub transactions : new.transactions.items ≡ old.transactions.items ++ n ∷ []
  pub begun : new.begun ≡ transactions_after (thread_state_in old.threads.table thread).transaction old.begun

-- A mark was recorded: the state of its thread changed, and no event was added.
pub record IsMarkedBy (thread : ℕ) (state : ThreadState) (i : Item) (old new : StoredTrace) : Type 0 where
  pub lines : new.threads.lines ≡ old.threads.lines
  pub threads : IsChanged thread state old.threads.table new.threads.table
  pub items : new.items.items ≡ old.items.items ++ i ∷ []
  pub transactions : new.transactions.items ≡ old.transactions.items
  pub begun : new.begun ≡ old.begun

abbrev pub IsEntered : ℕ → MethodKey → Item → StoredTrace → StoredTrace → Type 0
IsEntered thread m i old new = IsMarkedBy thread (with_entry m (thread_state_in old.threads.table thread)) i old new

abbrev pub IsExited : ℕ → Item → StoredTrace → StoredTrace → Type 0
IsExited thread i old new = IsMarkedBy thread (with_exit old.threads.lines (thread_state_in old.threads.table thread)) i old new
