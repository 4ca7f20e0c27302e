use Rattle.std.proofs.Common.{◌≡◌, ◌≤◌, ℕ, suc, length, slice_index, drop}
use Rattle.serial_order.specs.Chains.{AreRising, IsChain, events_of}
use Rattle.serial_order.proofs.chains.Chains.new.Given as goal

-- The chains are those of the events from this one on.
abbrev pub invariant-loop-event : goal.invariant-loop-event
invariant-loop-event l = record {
  firsts : length l.first.items ≡ suc l.fn.most;
  nexts : length l.next.items ≡ length l.transactions;
  rising : AreRising l.next.items;
  chains : (t : ℕ) → t ≤ l.fn.most → IsChain l.next.items (slice_index l.first.items t) (events_of t (suc l.event) (drop l.event l.transactions));
}
