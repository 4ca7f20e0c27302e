use Rattle.std.proofs.Common.{◌≡◌, ℕ, ◌<◌, length, get_or}
use Rattle.atom_order.specs.Slots.{numbers_of}
use Rattle.atom_order.proofs.slots.note_ranks.Given as goal

-- The ranks of the first ones are recorded.
abbrev pub invariant-loop-i : goal.invariant-loop-i
invariant-loop-i l = record {
  long : length l.ranks.items ≡ length l.initial.ranks.items;
  noted : (k : ℕ) → k < l.i → get_or l.ranks.items (get_or (numbers_of l.slots) k 0) 0 ≡ k;
}
