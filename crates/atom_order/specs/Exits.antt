-- Defines the links between live transactions as they are stored: of each transaction those into it, and the places of
-- those from it (own).
use Rattle.std.specs.Prelude.{◌≡◌, ℕ, zero, suc, ◌+◌, ◌<◌, ◌≤◌, ◌==◌, false, cond, List, [], ◌∷◌, ◌++◌, length, get_or, Option, Some, None}
use Rattle.velodrome.specs.Cycles.{IsIn}
use Rattle.atom_order.specs.declared.link.Link.{Link}
use Rattle.atom_order.specs.declared.slots.Exit.{Exit}
use Rattle.atom_order.specs.declared.slots.Slot.{Slot}
use Rattle.atom_order.specs.Reaching.{is_among, LeadForward}
use Rattle.atom_order.specs.Slots.{numbers_of, live_of}

abbrev pub links_at : List (List Link) → ℕ → List Link
links_at into y = get_or into y []

-- Returns the transaction that the link at a place of a list leads from.
abbrev pub source_at : List Link → ℕ → Option ℕ
source_at [] i = None
source_at (l ∷ links) zero = Some l.from
source_at (l ∷ links) (suc i) = source_at links i

abbrev pub exit_to : ℕ → ℕ → Exit
exit_to y i = record { to = y; link = i }

-- Each link between live transactions is an exit of the one that it leads from.
abbrev pub AreExits : List Slot → List (List Link) → Type 0
AreExits slots into = (s : Slot) (y i : ℕ) → IsIn s slots → IsIn s.transaction (live_of (numbers_of slots)) → IsIn y (live_of (numbers_of slots))
    → source_at (links_at into y) i ≡ Some s.transaction → IsIn (exit_to y i) s.exits

-- Passed links lead from dropped transactions.
pub record ArePassed (slots : List Slot) (into : List (List Link)) : Type 0 where
  pub within : (s : Slot) → IsIn s slots → IsIn s.transaction (live_of (numbers_of slots)) → s.passed ≤ length (links_at into s.transaction)
  pub dropped : (s : Slot) (i x : ℕ) → IsIn s slots → IsIn s.transaction (live_of (numbers_of slots)) → i < s.passed
      → source_at (links_at into s.transaction) i ≡ Some x → (x < length into) × (is_among x (live_of (numbers_of slots)) ≡ false)

-- The live transactions have begun. If links lead forward, all are exits.
pub record AreLinked (slots : List Slot) (into : List (List Link)) : Type 0 where
  pub some : 0 < length into
  pub known : (y : ℕ) → IsIn y (live_of (numbers_of slots)) → y < length into
  pub exits : LeadForward (links_at into) (live_of (numbers_of slots)) → AreExits slots into
  pub passed : ArePassed slots into

-- Links into transaction t were added.
pub record AreAdded (t : ℕ) (links : List Link) (old new : List (List Link)) : Type 0 where
  pub into : (y : ℕ) → links_at new y ≡ cond (y == t) (links_at old y ++ links) (links_at old y)
  pub len : length new ≡ length old

-- The slots have gained exits.
pub record HasMoreExits (old new : List Slot) : Type 0 where
  pub numbers : numbers_of new ≡ numbers_of old
  pub slots : (n : Slot) → IsIn n new → (s : Slot) × IsIn s old × (n.transaction ≡ s.transaction) × (n.passed ≡ s.passed) × ((e : Exit) → IsIn e s.exits → IsIn e n.exits)

-- If a transaction is live, it has the exit.
abbrev pub IsNoted : ℕ → Exit → List Slot → Type 0
IsNoted from exit slots = (s : Slot) → IsIn s slots → IsIn s.transaction (live_of (numbers_of slots)) → s.transaction ≡ from → IsIn exit s.exits

-- Links are exits to transaction t, where they are the links into it from place `first` on.
abbrev pub AreNoted : ℕ → ℕ → List Link → List Slot → Type 0
AreNoted t first links slots = (s : Slot) (i : ℕ) → IsIn s slots → IsIn s.transaction (live_of (numbers_of slots)) → source_at links i ≡ Some s.transaction
    → IsIn (exit_to t (first + i)) s.exits
