-- Defines the input and the result of a serial order.
use Rattle.std.specs.Prelude.{◌≡◌, ℕ, List, map}
use Rattle.jvms_machine.specs.declared.trace.Item.{Item}
use Rattle.velodrome.specs.Orders.{IsOrder}
use Rattle.velodrome.specs.Rearrangements.{IsSerial}
use Rattle.velodrome.specs.Specification.{Specification}
use Rattle.velodrome.specs.Transactions.{trace_state_of}

-- The transactions are those of the events of the items, and `order` is an order of all of them.
pub record IsOrderOf (lines : Specification) (items : List Item) (transactions order : List ℕ) : Type 0 where
  pub of_events : map (λ e. e.transaction) (trace_state_of lines items).events ≡ transactions
  pub is_order : IsOrder (trace_state_of lines items).events (trace_state_of lines items).transactions order

-- Some items have these transactions and this order.
abbrev pub HasItems : List ℕ → List ℕ → Type 0
HasItems transactions order = (lines : Specification) × (items : List Item) × IsOrderOf lines items transactions order

-- The numbers are a serial order of the events of any items with these transactions and this order.
abbrev pub AreSerialOf : List ℕ → List ℕ → List ℕ → Type 0
AreSerialOf transactions order numbers =
    (lines : Specification) (items : List Item) → IsOrderOf lines items transactions order → IsSerial (trace_state_of lines items).events numbers
