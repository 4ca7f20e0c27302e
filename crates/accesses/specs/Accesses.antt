-- Defines the accesses of an event, and which events of a trace are remembered for them (Velodrome, section 4).
use Rattle.std.specs.Prelude.{◌≡◌, ℕ, Bool, true, false, ◌==◌, ◌&&◌, ◌||◌, ◌⊎◌, List, [], ◌∷◌}
use Rattle.jvms_machine.specs.declared.trace.Item.{Item}
use Rattle.jvms_machine.specs.declared.trace.Item.TheVariants as item
use Rattle.jvms_machine.specs.declared.trace.Variable.{Variable}
use Rattle.jvms_machine.specs.Events.{thread_of}
use Rattle.velodrome.specs.Conflicts.{same_variable}
use Rattle.velodrome.specs.Cycles.{IsIn}
use Rattle.atom_order.specs.declared.link.Link.{Link}

-- A place that events access.
pub data Place : Type 0 where
  OfThread : ℕ → Place
  OfMonitor : ℕ → Place
  OfVariable : Variable → Place

abbrev pub same_place : Place → Place → Bool
same_place (OfThread t) (OfThread u) = t == u
same_place (OfMonitor r) (OfMonitor q) = r == q
same_place (OfVariable v) (OfVariable w) = same_variable v w
same_place _ _ = false

-- An access to a place. A main access conflicts with every other one there. Reads don't conflict with reads, nor forks
-- and joins of a thread with each other. They conflict with writes and with the thread's own events.
pub record Access : Type 0 where
  pub place : Place
  pub is_main : Bool

abbrev pub main_at : Place → Access
main_at p = record { place = p; is_main = true }

abbrev pub beside_at : Place → Access
beside_at p = record { place = p; is_main = false }

-- Returns the accesses of an item to what it touches.
abbrev pub accesses_beside : Item → List Access
accesses_beside (item.Read t v) = beside_at (OfVariable v) ∷ []
accesses_beside (item.Write t v) = main_at (OfVariable v) ∷ []
accesses_beside (item.Acquire t r) = main_at (OfMonitor r) ∷ []
accesses_beside (item.Release t r) = main_at (OfMonitor r) ∷ []
accesses_beside (item.Fork t u) = beside_at (OfThread u) ∷ []
accesses_beside (item.Join t u) = beside_at (OfThread u) ∷ []
accesses_beside _ = []

unfoldable pub accesses_of : Item → List Access
accesses_of i = main_at (OfThread (thread_of i)) ∷ accesses_beside i

-- Decides whether two accesses conflict: they are to one place and one of them is main.
abbrev pub against : Access → Access → Bool
against x y = same_place x.place y.place && (x.is_main || y.is_main)

-- An access, with the number, the transaction and the thread of its event.
pub record Last : Type 0 where
  pub access : Access
  pub number : ℕ
  pub transaction : ℕ
  pub thread : ℕ

abbrev pub last_of : ℕ → ℕ → ℕ → Access → Last
last_of number transaction thread x = record { access = x; number = number; transaction = transaction; thread = thread }

-- A remembered access conflicts with one of an item's.
abbrev pub IsAgainst : Item → Last → Type 0
IsAgainst i k = (y : Access) × IsIn y (accesses_of i) × (against k.access y ≡ true)

-- Returns the link from a remembered access to event `number`.
abbrev pub link_to : ℕ → Last → Link
link_to number k = record { from = k.transaction; pair = record { earlier = k.number; later = number } }

-- There is a link from each remembered access that conflicts with the item, and no other.
pub record AreLinks (kept : List Last) (number : ℕ) (i : Item) (links : List Link) : Type 0 where
  pub sound : (l : Link) → IsIn l links → (k : Last) × IsIn k kept × IsAgainst i k × (l ≡ link_to number k)
  pub whole : (k : Last) → IsIn k kept → IsAgainst i k → IsIn (link_to number k) links

-- A new access y replaces k: whatever conflicts with k conflicts with y, and their events conflict.
pub record TakesPlace (i : Item) (k : Last) (y : Access) : Type 0 where
  pub place : same_place k.access.place y.place ≡ true
  pub covers : k.access.is_main ≡ true → y.is_main ≡ true
  pub conflicts : (y.is_main ≡ true) ⊎ (k.thread ≡ thread_of i)

-- The accesses of an event are remembered. Only accesses that they replace may be forgotten.
pub record IsNoted (number transaction : ℕ) (i : Item) (old new : List Last) : Type 0 where
  pub added : (y : Access) → IsIn y (accesses_of i) → IsIn (last_of number transaction (thread_of i) y) new
  pub only : (k : Last) → IsIn k new → IsIn k old ⊎ ((y : Access) × IsIn y (accesses_of i) × (k ≡ last_of number transaction (thread_of i) y))
  pub left : (k : Last) → IsIn k old → IsIn k new ⊎ ((y : Access) × IsIn y (accesses_of i) × TakesPlace i k y)
