-- Defines the transactions of a trace (Velodrome, section 3). The events of a thread from the entry of an outermost
-- atomic method to its exit, or to the end, are one transaction. Each other event is a transaction alone. Marks are not
-- events.
use Rattle.std.specs.Prelude.{◌≡◌, ℕ, ◌+◌, Bool, true, false, not, ◌==◌, ◌&&◌, if◌then◌else◌, List, [], ◌∷◌, ◌++◌, drop, fold, length, Option, Some, None}
use Rattle.std.specs.List.{list_any}
use Rattle.jvms_file.specs.Names.{same_text}
use Rattle.jvms_program.specs.declared.key.MethodKey.{MethodKey}
use Rattle.jvms_machine.specs.declared.trace.Item.{Item}
use Rattle.jvms_machine.specs.declared.trace.Item.TheVariants as item
use Rattle.jvms_machine.specs.Events.{thread_of}
use Rattle.velodrome.specs.Specification.{Specification, is_atomic}

-- An event of a trace, with its number and the number of its transaction. Both count from 1.
pub record Event : Type 0 where
  pub number : ℕ
  pub transaction : ℕ
  pub item : Item

-- A thread's state: its open methods, innermost first, and the transaction of its outermost atomic method. There is no
-- transaction before that method has an event.
pub record ThreadState : Type 0 where
  pub methods : List MethodKey
  pub transaction : Option ℕ

-- The state of a trace: the state of each thread, the events, and the number of transactions.
pub record TraceState : Type 0 where
  pub threads : ℕ → ThreadState
  pub events : List Event
  pub transactions : ℕ

abbrev pub opening_trace_state : TraceState
opening_trace_state = record { threads = λ t. record { methods = []; transaction = None }; events = []; transactions = 0 }

-- Replaces the state of a thread.
abbrev pub with_thread_state : ℕ → ThreadState → TraceState → TraceState
with_thread_state t thread w = record w { threads = λ u. if u == t then thread else w.threads u }

abbrev pub has_atomic : Specification → List MethodKey → Bool
has_atomic lines methods = list_any (is_atomic lines) methods

abbrev pub with_entry : MethodKey → ThreadState → ThreadState
with_entry m thread = record { methods = m ∷ thread.methods; transaction = thread.transaction }

-- Closes the innermost method of a thread. With its last atomic method the transaction ends.
abbrev pub with_exit : Specification → ThreadState → ThreadState
with_exit lines thread =
    record {
      methods = drop 1 thread.methods;
      transaction = if has_atomic lines (drop 1 thread.methods) then thread.transaction else None;
    }

-- Returns the transaction of a thread's next event when `begun` transactions have begun. It is the open transaction, or
-- else a new one.
abbrev pub next_transaction : Option ℕ → ℕ → ℕ
next_transaction (Some n) begun = n
next_transaction None begun = begun + 1

abbrev pub transactions_after : Option ℕ → ℕ → ℕ
transactions_after (Some n) begun = begun
transactions_after None begun = begun + 1

-- Appends an event in transaction n. The transaction stays open if an atomic method of the thread is open.
abbrev pub with_event : Specification → Item → ThreadState → ℕ → TraceState → TraceState
with_event lines i thread n w =
    with_thread_state (thread_of i) (record thread { transaction = if has_atomic lines thread.methods then Some n else None })
    (record {
      threads = w.threads;
      events = w.events ++ record { number = length w.events + 1; transaction = n; item = i } ∷ [];
      transactions = transactions_after thread.transaction w.transactions;
    })

-- Returns the trace state after an item.
unfoldable pub state_after_item : Specification → TraceState → Item → TraceState
state_after_item lines w (item.Enter t m) = with_thread_state t (with_entry m (w.threads t)) w
state_after_item lines w (item.Exit t m) = with_thread_state t (with_exit lines (w.threads t)) w
state_after_item lines w i =
    let thread = w.threads (thread_of i) in with_event lines i thread (next_transaction thread.transaction w.transactions) w

unfoldable pub trace_state_of : Specification → List Item → TraceState
trace_state_of lines items = fold (state_after_item lines) opening_trace_state items

-- ---- Which items may follow

abbrev pub same_method : MethodKey → MethodKey → Bool
same_method m n = same_text m.class n.class && same_text m.name n.name && same_text m.descriptor n.descriptor

abbrev pub is_innermost : MethodKey → List MethodKey → Bool
is_innermost m [] = false
is_innermost m (n ∷ methods) = same_method m n

-- Tests that an exit is of the innermost open method of its thread.
abbrev pub is_matched : TraceState → Item → Bool
is_matched w (item.Exit t m) = is_innermost m (w.threads t).methods
is_matched w i = true

-- Decides whether an item is an event. Marks are not.
abbrev pub is_event : Item → Bool
is_event (item.Enter t m) = false
is_event (item.Exit t m) = false
is_event _ = true
