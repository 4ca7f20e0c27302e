-- Defines chains, in which each event of a transaction leads to the next. Events count from 0 in chains, and from 1 in
-- lists.
use Rattle.std.specs.Prelude.{◌≡◌, ℕ, suc, ◌<◌, ◌≤◌, ◌==◌, cond, List, [], ◌∷◌, ◌++◌, length, slice_index}

-- The list has the numbers of the events along the chain, from this event to the last.
abbrev pub IsChain : List ℕ → ℕ → List ℕ → Type 0
IsChain next event [] = event ≡ length next
IsChain next event (n ∷ chain) = (n ≡ suc event) × (event < length next) × IsChain next (slice_index next event) chain

-- Each event leads to a later one, or to the end.
abbrev pub AreRising : List ℕ → Type 0
AreRising next = (k : ℕ) → k < length next → k < slice_index next k

-- Returns the numbers of the events of transaction t, if the first of the list is event n.
abbrev pub events_of : ℕ → ℕ → List ℕ → List ℕ
events_of t n [] = []
events_of t n (transaction ∷ transactions) = cond (transaction == t) (n ∷ events_of t (suc n) transactions) (events_of t (suc n) transactions)

-- Returns the numbers of the events of each transaction, in the order of transactions.
abbrev pub in_order : List ℕ → List ℕ → List ℕ
in_order transactions [] = []
in_order transactions (t ∷ order) = events_of t 1 transactions ++ in_order transactions order

-- The chains of the events of transactions 0 to `most`.
pub record AreChains (transactions : List ℕ) (most : ℕ) (first next : List ℕ) : Type 0 where
  pub firsts : length first ≡ suc most
  pub nexts : length next ≡ length transactions
  pub rising : AreRising next
  pub chains : (t : ℕ) → t ≤ most → IsChain next (slice_index first t) (events_of t 1 transactions)
