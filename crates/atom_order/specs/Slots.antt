-- Defines how the live transactions are stored: in slots in their order, with gaps where transactions were (own).
use Rattle.std.specs.Prelude.{◌≡◌, ◌≢◌, ℕ, ◌<◌, ◌==◌, not, List, [], length, map, get_or}
use Rattle.std.specs.List.{filter}
use Rattle.atom_order.specs.declared.slots.Slot.{Slot}

pub record SlotList : Type 0 where
  pub slots : List Slot
  pub next : ℕ
  pub room : ℕ

abbrev pub gap : Slot
gap = record { transaction = 0; passed = 0; exits = [] }

-- Returns the transaction of each slot, and 0 for each gap.
abbrev pub numbers_of : List Slot → List ℕ
numbers_of slots = map (λ (s : Slot). s.transaction) slots

abbrev pub live_of : List ℕ → List ℕ
live_of numbers = filter (λ x. not (x == 0)) numbers

-- Transaction x is live, and its slot is at the rank.
pub record IsRank (numbers : List ℕ) (x rank : ℕ) : Type 0 where
  pub within : rank < length numbers
  pub here : get_or numbers rank 0 ≡ x
  pub lives : x ≢ 0

-- The rank of each live transaction is recorded, and the number of live transactions.
pub record AreRanks (numbers ranks : List ℕ) (count : ℕ) : Type 0 where
  pub some : 0 < length ranks
  pub known : (i : ℕ) → i < length numbers → get_or numbers i 0 < length ranks
  pub at : (i : ℕ) → i < length numbers → get_or numbers i 0 ≢ 0 → get_or ranks (get_or numbers i 0) 0 ≡ i
  pub counted : count ≡ length (live_of numbers)
