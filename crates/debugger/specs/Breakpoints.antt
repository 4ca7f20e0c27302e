-- Defines the breakpoints of a session, which are kept in slots.
use Rattle.std.specs.Prelude.{◌≡◌, ℕ, ◌+◌, ◌*◌, ◌<◌, ◌≤◌, false, cond, List, [], ◌∷◌, length, map, slice_index_or}
use Rattle.debugger_commands.specs.declared.breakpoint.Breakpoint.{Breakpoint}
use Rattle.debugger.specs.declared.breakpoints.Slot.{Slot}

-- Breakpoints, and the number of the next one.
pub record Numbered : Type 0 where
  pub items : List Breakpoint
  pub next : ℕ

-- Returns the breakpoints that weren't deleted.
abbrev pub breakpoints_of : List Slot → List Breakpoint
breakpoints_of [] = []
breakpoints_of (s ∷ slots) = cond s.is_deleted (breakpoints_of slots) (s.breakpoint ∷ breakpoints_of slots)

-- Returns the numbers of breakpoints, including deleted ones.
abbrev pub numbers : List Slot → List ℕ
numbers slots = map (λ s. s.breakpoint.number) slots

-- The numbers ascend, from a lower bound on and below an end.
abbrev pub Rises : ℕ → ℕ → List ℕ → Type 0
Rises low end [] = low ≤ end
Rises low end (n ∷ ns) = (low ≤ n) × Rises (n + 1) end ns

-- Slot i has breakpoint k, which wasn't deleted. All slots before it have smaller numbers.
pub record IsSlotOf (k : ℕ) (slots : List Slot) (i : ℕ) : Type 0 where
  pub within : i < length slots
  pub before : (j : ℕ) (d : Slot) → j < i → (slice_index_or slots j d).breakpoint.number < k
  pub number : (d : Slot) → (slice_index_or slots i d).breakpoint.number ≡ k
  pub stays : (d : Slot) → (slice_index_or slots i d).is_deleted ≡ false

-- The slots have ascending numbers, and `deleted` of them are of deleted breakpoints, at most half.
pub record AreSlots (slots : List Slot) (deleted : ℕ) (next : ℕ) : Type 0 where
  pub rising : Rises 0 next (numbers slots)
  pub count : length (breakpoints_of slots) + deleted ≡ length slots
  pub few : 2 * deleted ≤ length slots
