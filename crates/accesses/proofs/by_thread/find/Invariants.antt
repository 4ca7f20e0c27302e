use Rattle.std.proofs.Common.{◌≡◌, ◌<◌, ◌-◌, ◌⊎◌, length}
use Rattle.accesses.specs.ByThread.{IsWay}
use Rattle.accesses.proofs.Ways.{AreAhead}
use Rattle.accesses.proofs.by_thread.find.Given as goal

-- The thread's node is reached from here, if it has one.
abbrev pub invariant-loop-at : goal.invariant-loop-at
invariant-loop-at l = record {
  inside : (l.at < length l.nodes) ⊎ (length l.nodes ≡ 0);
  ahead : AreAhead l.nodes l.thread l.at l.bits;
  way : IsWay l.nodes l.thread l.at l.bits;
}

abbrev pub decreases-loop-at : goal.decreases-loop-at
decreases-loop-at l = length l.nodes - l.at
