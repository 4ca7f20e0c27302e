-- The remembered accesses suffice to find each conflict of a new event (Velodrome, section 4).
use Rattle.std.specs.Prelude.{◌≡◌, ℕ, true, List}
use Rattle.jvms_machine.specs.Events.{thread_of}
use Rattle.velodrome.specs.Cycles.{IsIn}
use Rattle.velodrome.specs.Transactions.{Event}
use Rattle.atom_order.specs.Keeping.{Leads, Order}
use Rattle.accesses.specs.Accesses.{Access, Last, accesses_of, same_place}

-- A remembered access is one of event e.
pub record IsOf (e : Event) (k : Last) : Type 0 where
  pub number : e.number ≡ k.number
  pub transaction : e.transaction ≡ k.transaction
  pub thread : thread_of e.item ≡ k.thread
  pub access : IsIn k.access (accesses_of e.item)

-- Access k represents access x: it is to the same place, whatever conflicts with x conflicts with k, and x's
-- transaction leads to k's.
pub record StandsFor (o : Order) (transaction : ℕ) (x : Access) (k : Last) : Type 0 where
  pub place : same_place x.place k.access.place ≡ true
  pub covers : x.is_main ≡ true → k.access.is_main ≡ true
  pub leads : Leads o.live o.into transaction k.transaction

-- All remembered accesses are of events, and each access of an event of a live transaction is represented by one of
-- them.
pub record Suffices (events : List Event) (o : Order) (kept : List Last) : Type 0 where
  pub are : (k : Last) → IsIn k kept → (e : Event) × IsIn e events × IsOf e k
  pub stands : (e : Event) (x : Access) → IsIn e events → IsIn e.transaction o.live → IsIn x (accesses_of e.item) → (k : Last) × IsIn k kept × StandsFor o e.transaction x k
