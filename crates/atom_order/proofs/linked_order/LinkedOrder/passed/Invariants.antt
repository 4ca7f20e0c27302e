use Rattle.std.proofs.Common.{◌≡◌, ◌-◌, ◌<◌, ◌≤◌, ℕ, false, Some, length}
use Rattle.atom_order.specs.Exits.{source_at}
use Rattle.atom_order.specs.Reaching.{is_among}
use Rattle.atom_order.specs.Slots.{live_of}
use Rattle.atom_order.proofs.linked_order.LinkedOrder.passed.Given as goal

-- The passed links lead from dropped transactions.
abbrev pub invariant-loop-passed : goal.invariant-loop-passed
invariant-loop-passed l = record {
  within : l.passed ≤ length l.links;
  dropped : (i x : ℕ) → i < l.passed → source_at l.links i ≡ Some x → (x < length l.self.into) × (is_among x (live_of l.self.slots) ≡ false);
}

abbrev pub decreases-loop-passed : goal.decreases-loop-passed
decreases-loop-passed l = length l.links - l.passed
